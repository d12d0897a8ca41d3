-- What a step leaves as it was, and what it does to the clocks.
use Rattle.std.specs.Prelude.{ℕ, ◌+◌, ◌-◌, ◌≤◌, ◌≡◌, List, length}
use Rattle.std.proofs.Math.Path.{refl}
use Rattle.std.proofs.Common.{◌∙◌, arith}
use Rattle.image.specs.Layout.{clock_of}
use Rattle.image.specs.Laws.{front-past-header, front-past-contents, clock-same}
use Rattle.image.specs.Alike.{Alike, unchanged, header-alike, contents-alike, clock-alike}
use Rattle.transient.specs.declared.sizes.Sizes.{Sizes}
use Rattle.transient.specs.Laws.{FrontKept, front_same, head-then, beside-front, retired-front, emptied-front}
use Rattle.transient.specs.Store.{Store}
use Rattle.index.specs.Laws.{removed-only}
use Rattle.step.specs.declared.Place.{Place}
use Rattle.step.specs.declared.Advance.TheVariants.{WentOn, Ticked}
use Rattle.step.specs.Step.{Stepped, reclaimed, contents_flushed, header_flushed, ticking, step}
use Rattle.step.specs.Ways.{every_way}

-- ---- what a step leaves as it was: the sizes, and the notes before the slots' notes
pub record Steady (z : Sizes) (st : Store) (x : Stepped) : Type 0 where
  pub working : Alike st.working x.store.working
  pub persistent : Alike st.persistent x.store.persistent
  pub notes : FrontKept z st.transient x.store.transient

-- a step goes on with the clocks as they were, or ticks and both are one higher
pub data Clocked (st : Store) (c : ℕ) (x : Stepped) : Type 0 where
  on : x.reply ≡ WentOn → clock_of x.store.working ≡ clock_of st.working → clock_of x.store.persistent ≡ clock_of st.persistent → Clocked st c x
  tick : x.reply ≡ Ticked → clock_of x.store.working ≡ c + 1 → clock_of x.store.persistent ≡ c + 1 → Clocked st c x

pub record Kept (z : Sizes) (st : Store) (c : ℕ) (x : Stepped) : Type 0 where
  pub steady : Steady z st x
  pub clocked : Clocked st c x

-- one change after another
front-then : {z : Sizes} {a b c : List ℕ} → FrontKept z a b → FrontKept z b c → FrontKept z a c
front-then x y =
    record {
      head = head-then x.head y.head;
      noted = y.noted ∙ x.noted;
      last = y.last ∙ x.last;
      uid = y.uid ∙ x.uid;
      order = y.order ∙ x.order;
    }

module _ (z : Sizes) (st : Store) (c : ℕ) (long : 3 ≤ length st.working) (also : 3 ≤ length st.persistent) where
  reclaim-kept : (s : ℕ) → Kept z st c (reclaimed z st s)
  unfolding reclaimed
  reclaim-kept s =
      record {
        steady = record { working = header-alike st.working s _; persistent = header-alike st.persistent s _; notes = front-then (retired-front st.transient z s 0) (beside-front (removed-only z _ _ s)) };
        clocked = on refl (front-past-header st.working s 2 _ (omega arith)) (front-past-header st.persistent s 2 _ (omega arith));
      }

  contents-kept : (s : ℕ) → Kept z st c (contents_flushed z st s)
  unfolding contents_flushed
  contents-kept s =
      record {
        steady = record { working = unchanged st.working; persistent = contents-alike st.persistent z.n z.w s _; notes = front_same };
        clocked = on refl refl (front-past-contents st.persistent z.n z.w s 2 _ (omega arith));
      }

  header-kept : (s : ℕ) → Kept z st c (header_flushed z st s)
  unfolding header_flushed
  header-kept s =
      record {
        steady = record { working = unchanged st.working; persistent = header-alike st.persistent s _; notes = front_same };
        clocked = on refl refl (front-past-header st.persistent s 2 _ (omega arith));
      }

  tick-kept : Kept z st c (ticking z st c)
  unfolding ticking
  tick-kept =
      record {
        steady = record { working = clock-alike st.working (c + 1); persistent = clock-alike st.persistent (c + 1); notes = emptied-front st.transient z (c - 1) };
        clocked = tick refl (clock-same st.working (c + 1) long) (clock-same st.persistent (c + 1) also);
      }

  pub step_kept : (p : Place) → Kept z st c (step z st c p)
  step_kept = every_way (Kept z st c) z st c (λ s h. reclaim-kept s) contents-kept header-kept tick-kept
