-- The start: what format or a finished recovery leaves has the invariant.
use Rattle.std.specs.Prelude.{ℕ, ◌≡◌, refl, true, not, List, length, eqb, Option, Some, None, Ok, Err}
use Rattle.std.proofs.Common.{◌∙◌, arith}
use Rattle.std.proofs.lemmas.Bool.{not-false}
use Rattle.search.specs.Bools.{not-is-true, and_right}
use Rattle.search.specs.Largest.{largest-bounds}
use Rattle.reply.specs.declared.Refusal.TheVariants.{BadSizes}
use Rattle.reply.specs.Refusals.{Check, not-refused}
use Rattle.image.specs.Layout.{queue_board, key_at, slots_of, width_of}
use Rattle.transient.specs.Layout.{threads_ok}
use Rattle.transient.specs.Store.{Store, after_check}
use Rattle.survival.specs.Survivors.{survivor, survives_on}
use Rattle.acceptance.specs.Accept.{image_check}
use Rattle.acceptance.specs.Sound.{accepted-says}
use Rattle.recovery.specs.declared.Recovery.TheVariants.{Done}
use Rattle.recovery.specs.Recover.{next_freed, next_uid, next_order, lengths_fit, recover_check, freeing, recover}
use Rattle.recovery.specs.Requires.{uid_of, finished}
use Rattle.recovery.specs.Steps.{nonzero_at, done-survivors}
use Rattle.recovery.specs.Notes.{recovered-long, recovered-phase, recovered-open, recovered-retired, recovered-uid, recovered-order, recovered-indexed}
use Rattle.guarantee.specs.Promise.{Started, fresh, recovered}
use Rattle.guarantee.proofs.Clean.{Begins, clean-good}
use Rattle.guarantee.proofs.Fresh.{fresh-good, formats}

-- ---- a recovery that is done
recovered-good : (l : List ℕ) (len : ℕ) → image_check l ≡ Ok tt → next_freed l (slots_of l) ≡ None → threads_ok len (slots_of l) ≡ true
    → Begins (finished l len (slots_of l) (width_of l))
unfolding finished nonzero_at next_uid next_order
recovered-good l len ok none t =
    let n = slots_of l in
    let w = width_of l in
    let long = recovered-long l len n w in
    let uid = recovered-uid l len n w t in
    clean-good (record {
      accepted = ok;
      just = λ s h f. done-survivors l none s h ∙ not-is-true f;
      uid-lo = rw uid (omega arith);
      uids = λ s h v. rw uid (omega (arith, largest-bounds (survivor l n) (uid_of l) n s h v));
      orders = λ s h v. rw (recovered-order l len n w t) (omega (arith, largest-bounds (survives_on l n queue_board) (key_at l n w) n s h v));
      threads = rw long t;
      idle = recovered-phase l len n w;
      closed = rw long (recovered-open l len n w);
      not-retired = rw long (recovered-retired l len n w);
      index = rw long (recovered-indexed l len n w t (accepted-says l ok).sized.sizes.slots-hi);
    })

-- what a call that replied done judged and found
record Finishes (st : Store) : Type 0 where
  accepted : image_check st.persistent ≡ Ok tt
  none : next_freed st.persistent (slots_of st.persistent) ≡ None
  threads : threads_ok (length st.transient) (slots_of st.persistent) ≡ true
  leaves : (recover st).store ≡ finished st.persistent (length st.transient) (slots_of st.persistent) (width_of st.persistent)

-- only an accepted call with nothing to free replies done
done-only : (k : Check) (f : Option ℕ) (st : Store) (n w : ℕ) → (after_check k Err st (freeing f st n w)).reply ≡ Ok Done → (k ≡ Ok tt) × (f ≡ None)
done-only (Err r) f st n w e = let z : ◌≡◌ {A = ℕ} 0 1 = cc in absurd (omega arith)
done-only (Ok _) (Some s) st n w e = let z : ◌≡◌ {A = ℕ} 0 1 = cc in absurd (omega arith)
done-only (Ok _) None st n w e = (refl, refl)

finishes : (st : Store) → (recover st).reply ≡ Ok Done → Finishes st
unfolding recover recover_check lengths_fit finished
finishes st e =
    let l = st.persistent in
    let n = slots_of l in
    let fit = lengths_fit (length st.working) l (length st.transient) in
    let d = done-only (recover_check st) (next_freed l n) st n (width_of l) e in
    let entry = not-refused (not fit) BadSizes (image_check l) d.0 in
    record {
      accepted = entry.1;
      none = d.1;
      threads = and_right (eqb (length st.working) (length l)) _ (not-false fit entry.0);
      leaves = rw (d.0, d.1);
    }

-- ---- every start has the invariant
pub start-good : {st : Store} → Started st → Begins st
start-good (fresh a n w e) = let f = formats a n w e in rw f.leaves (fresh-good n w f.sizes (length a.transient) f.threads)
start-good (recovered a e) =
    let f = finishes a e in rw f.leaves (recovered-good a.persistent (length a.transient) f.accepted f.none f.threads)
