-- A whole recovery completes and leaves just the survivors, whatever working and notes hold before each of its calls, and however often
-- it is cut. The idea: each call that goes on leaves one header less that is not zeros, and a cut none more.
use Rattle.std.specs.Prelude.{ℕ, zero, suc, ◌+◌, ◌-◌, ◌≤◌, ◌<◌, ◌≡◌, refl, true, ◌⊎◌, List, length, eqb, Option, Some, None, Result, Ok, Err}
use Rattle.std.proofs.Common.{sym, ap, ◌∙◌, inl, inr, ⊎_elim, arith}
use Rattle.std.proofs.lemmas.Bool.{not-true}
use Rattle.std.proofs.Math.Decide.{ℕ_discrete}
use Rattle.search.specs.Bools.{never, refuted, not-is-true, and_right}
use Rattle.search.specs.First.{found-cases}
use Rattle.search.specs.Count.{count, count-top, count-mono}
use Rattle.reply.specs.declared.Refusal.{Refusal}
use Rattle.image.specs.declared.header.Header.{Header}
use Rattle.image.specs.Layout.{slots_of, width_of, is_blank, header, free_header}
use Rattle.image.specs.Line.{header_line, store_line}
use Rattle.image.specs.Requires.{header-fits}
use Rattle.image.specs.Laws.{header-other}
use Rattle.image.specs.Whole.{free-zero, blank-says}
use Rattle.image.specs.Torn.{Mixed, torn-same, Remains, torn-freed}
use Rattle.transient.specs.Layout.{threads_ok}
use Rattle.transient.specs.Store.{Store, store, table, table_of, sizes_of, Outcome, after_check}
use Rattle.index.specs.Indexed.{Indexed}
use Rattle.survival.specs.Survivors.{survivor}
use Rattle.acceptance.specs.Accept.{image_check}
use Rattle.acceptance.specs.Sound.{accepted-says}
use Rattle.recovery.specs.Recover.{next_freed, lengths_fit, recover_check, recovered_notes, freeing, recover}
use Rattle.recovery.specs.Recovering.{AnyWords, call, left, Completes, Reached, at_first, went_on, was-cut}
use Rattle.recovery.specs.Requires.{finished}
use Rattle.recovery.specs.Notes.{recovered-long, recovered-indexed}
use Rattle.recovery.specs.Steps.{SameSurvivors, nonzero_at, next-spent, free-keeps, free-accepted, step-lowers, done-survivors}
use Rattle.recovery.specs.declared.Recovery.{Recovery}
use Rattle.recovery.specs.declared.Recovery.TheVariants.{WentOn, Done}
use Rattle.reply.specs.Refusals.{Check}

-- what the call that replies "done" leaves: in lasting the survivors of l and zeros in all other headers, in working a copy, the notes
-- (of `words` words) set, their index for working
pub record Rebuilt (l : List ℕ) (words : ℕ) (st : Store) : Type 0 where
  pub same : SameSurvivors l st.persistent
  pub accepted : image_check st.persistent ≡ Ok tt
  pub just : (s : ℕ) → s < slots_of l → nonzero_at st.persistent s ≡ survivor l (slots_of l) s
  pub rest : st ≡ finished st.persistent words (slots_of l) (width_of l)
  pub indexed : Indexed (sizes_of (table_of st)) st.working st.transient

-- ---- survivors that stay the same from image to image
same_refl : (l : List ℕ) → SameSurvivors l l
same_refl l =
    record {
      long = refl;
      slots = refl;
      width = refl;
      clock = refl;
      survivors = λ s h. refl;
      lines = λ s. refl;
      names = λ s h v. refl;
      values = λ s. refl;
    }

same-trans : {l m k : List ℕ} → SameSurvivors l m → SameSurvivors m k → SameSurvivors l k
same-trans {l} {m} {k} a b =
    let survivors : (s : ℕ) → s < slots_of l → survivor k (slots_of l) s ≡ survivor m (slots_of l) s = rw a.slots at b.survivors in
    let names = rw (a.slots, a.width) at b.names in
    record {
      long = b.long ∙ a.long;
      slots = b.slots ∙ a.slots;
      width = b.width ∙ a.width;
      clock = b.clock ∙ a.clock;
      survivors = λ s h. survivors s h ∙ a.survivors s h;
      lines = λ s. (rw (a.slots, a.width) at (b.lines s)) ∙ a.lines s;
      names = λ s h v. names s h (a.survivors s h ∙ v) ∙ a.names s h v;
      values = λ s. (rw (a.slots, a.width) at (b.values s)) ∙ a.values s;
    }

-- ---- a step of recovery, and what a cut leaves of it
module _ (a : List ℕ) (s : ℕ) (ok : image_check a ≡ Ok tt) (next : next_freed a (slots_of a) ≡ Some s) where
  abbrev after : List ℕ
  after = store_line a (header_line s free_header)

  step_keeps : SameSurvivors a after
  step_keeps = free-keeps a s free_header free-zero ok (next-spent a (slots_of a) s next)

  step-accepted : image_check after ≡ Ok tt
  step-accepted = free-accepted a s free_header free-zero ok (next-spent a (slots_of a) s next)

-- what is zeros in the one image stays so in the other
record Fewer (a b : List ℕ) : Type 0 where
  same : SameSurvivors a b
  ok : image_check b ≡ Ok tt
  few : count (nonzero_at b) (slots_of a) ≤ count (nonzero_at a) (slots_of a)

mixed-blank : {x g : Header} → Mixed x g free_header → is_blank g ≡ true → is_blank x ≡ true
unfolding is_blank
mixed-blank {x} {g} m b =
    let e = blank-says g b in
    let k = zero_of m.kind (ap (λ (y : Header). y.kind) e) in
    let f = zero_of m.epoch (ap (λ (y : Header). y.epoch) e) in
    let u = zero_of m.uid (ap (λ (y : Header). y.uid) e) in
    let d = zero_of m.board (ap (λ (y : Header). y.board) e) in
    rw (k, f, u, d)
  where
    zero_of : {p q : ℕ} → (p ≡ q) ⊎ (p ≡ 0) → q ≡ 0 → p ≡ 0
    zero_of (inl r) e = r ∙ e
    zero_of (inr r) e = r

torn-fewer : {a b : List ℕ} {s : ℕ} → image_check a ≡ Ok tt → next_freed a (slots_of a) ≡ Some s → Remains a s b → Fewer a b
unfolding nonzero_at
torn-fewer {a} {b} {s} ok next r =
    let p = next-spent a (slots_of a) s next in
    record {
      same = rw (← r.is) at (free-keeps a s (header b s) r.zero ok p);
      ok = rw (← r.is) at (free-accepted a s (header b s) r.zero ok p);
      few = count-mono (nonzero_at b) (nonzero_at a) (slots_of a) (λ i h. lower i);
    }
  where
    other : (i : ℕ) → (i ≡ s → ⊥) → header b i ≡ header a i
    other i d = rw (← r.is) at (header-other a s i (header b s) d)

    lower : (i : ℕ) → nonzero_at b i ≡ true → nonzero_at a i ≡ true
    lower i v = elim (ℕ_discrete i s) [
      | yes e ↦ rw e (not-is-true (refuted (is_blank (header a s)) (λ q. never _ (mixed-blank r.mixed q) (not-true _ (rw e at v)))))
      | no d ↦ rw (← other i d) v
    ]

-- ---- one call on an accepted image: it does not decline
not-declined : (w l t : List ℕ) → image_check l ≡ Ok tt → lengths_fit (length w) l (length t) ≡ true
    → recover (store w l t) ≡ freeing (next_freed l (slots_of l)) (store w l t) (slots_of l) (width_of l)
unfolding recover recover_check
not-declined w l t ok fit = rw (fit, ok)

-- it goes on, or it is the one that is done
data Call (a : List ℕ) (any : AnyWords a) : Type 0 where
  goes : (s : ℕ) → next_freed a (slots_of a) ≡ Some s → (call a any).reply ≡ Ok WentOn → left a any ≡ store_line a (header_line s free_header) → Call a any
  ends : next_freed a (slots_of a) ≡ None → (call a any).reply ≡ Ok Done → left a any ≡ a → (call a any).store ≡ finished a (length any.transient) (slots_of a) (width_of a) → Call a any

call-cases : (a : List ℕ) → image_check a ≡ Ok tt → (any : AnyWords a) → Call a any
unfolding finished
call-cases a ok any = go (found-cases (next_freed a (slots_of a)))
  where
    is : call a any ≡ freeing (next_freed a (slots_of a)) (store any.working a any.transient) (slots_of a) (width_of a)
    is = not-declined any.working a any.transient ok any.fit

    found : {f : Option ℕ} → next_freed a (slots_of a) ≡ f → call a any ≡ freeing f (store any.working a any.transient) (slots_of a) (width_of a)
    found e = is ∙ ap (λ f. freeing f (store any.working a any.transient) (slots_of a) (width_of a)) e

    go : ((s : ℕ) × (next_freed a (slots_of a) ≡ Some s)) ⊎ (next_freed a (slots_of a) ≡ None) → Call a any
    go (inl (s, e)) = goes s e (ap (λ (o : Outcome (Result Recovery Refusal)). o.reply) (found e)) (ap (λ (o : Outcome (Result Recovery Refusal)). o.store.persistent) (found e))
    go (inr e) = ends e (ap (λ (o : Outcome (Result Recovery Refusal)). o.reply) (found e)) (ap (λ (o : Outcome (Result Recovery Refusal)). o.store.persistent) (found e)) (ap (λ (o : Outcome (Result Recovery Refusal)). o.store) (found e))

-- ---- a is what recovery from l has come to, k calls having gone on
record OnTheWay (l : List ℕ) (k : ℕ) (a : List ℕ) : Type 0 where
  same : SameSurvivors l a
  ok : image_check a ≡ Ok tt
  few : count (nonzero_at a) (slots_of l) + k ≤ slots_of l

setting-out : (l : List ℕ) → image_check l ≡ Ok tt → OnTheWay l 0 l
setting-out l ok = record { same = same_refl l; ok = ok; few = omega (arith, count-top (nonzero_at l) (slots_of l)) }

one_further : {l a : List ℕ} {k s : ℕ} → OnTheWay l k a → next_freed a (slots_of a) ≡ Some s → OnTheWay l (suc k) (store_line a (header_line s free_header))
one_further {l} {a} {k} {s} o next =
    let down = rw o.same.slots at (step-lowers a s o.ok next) in
    record {
      same = same-trans o.same (step_keeps a s o.ok next);
      ok = step-accepted a s o.ok next;
      few = omega (arith, o.few);
    }

no-further : {l a b : List ℕ} {k : ℕ} → OnTheWay l k a → Fewer a b → OnTheWay l k b
no-further o f =
    let few = rw o.same.slots at f.few in
    record { same = same-trans o.same f.same; ok = f.ok; few = omega (arith, o.few) }

-- the index by the sizes that the next call reads
finished-indexed : (a : List ℕ) (words : ℕ) → image_check a ≡ Ok tt → threads_ok words (slots_of a) ≡ true
    → Indexed (sizes_of (table a (recovered_notes a words (slots_of a) (width_of a)))) a (recovered_notes a words (slots_of a) (width_of a))
unfolding sizes_of
finished-indexed a words ok fit =
    let n = slots_of a in
    rw (recovered-long a words n (width_of a)) (recovered-indexed a words n (width_of a) fit (accepted-says a ok).sized.sizes.slots-hi)

arrived : {l a : List ℕ} {k : ℕ} (words : ℕ) → threads_ok words (slots_of a) ≡ true → OnTheWay l k a → next_freed a (slots_of a) ≡ None
    → Rebuilt l words (finished a words (slots_of a) (width_of a))
unfolding finished
arrived {l} {a} words fit o none =
    let just : (s : ℕ) → s < slots_of l → survivor a (slots_of l) s ≡ nonzero_at a s = rw o.same.slots at (done-survivors a none) in
    record { same = o.same; accepted = o.ok; just = λ s h. sym (just s h) ∙ o.same.survivors s h; rest = rw (o.same.slots, o.same.width); indexed = finished-indexed a words o.ok fit }

any-threads : {a : List ℕ} (any : AnyWords a) → threads_ok (length any.transient) (slots_of a) ≡ true
unfolding lengths_fit
any-threads {a} any = and_right (eqb (length any.working) (length a)) _ any.fit

-- a reply that is not this one
other-reply : {A : Type 0} → ◌≡◌ {A = Result Recovery Refusal} (Ok Done) (Ok WentOn) → A
other-reply e = let z : ◌≡◌ {A = ℕ} 0 1 = cc in absurd (omega arith)

module _ (l : List ℕ) (ok : image_check l ≡ Ok tt) where
  way : {k : ℕ} {a : List ℕ} → Reached l k a → OnTheWay l k a
  way at_first = setting-out l ok
  way (went_on {k} {a} r any e) = go (way r)
    where
      go : OnTheWay l k a → OnTheWay l (suc k) (left a any)
      go o = elim (call-cases a o.ok any) [
        | goes s next g is ↦ rw is (one_further o next)
        | ends next d q is ↦ other-reply (sym d ∙ e)
      ]
  way (was-cut {k} {a} {b} r any t) = go (way r)
    where
      go : OnTheWay l k a → OnTheWay l k b
      go o = elim (call-cases a o.ok any) [
        | goes s next g is ↦
            ⊎_elim (λ (e : b ≡ a). rw e o) (λ (q : Remains a s b). no-further o (torn-fewer o.ok next q))
            (torn-freed (header-fits (accepted-says a o.ok).sized (next-spent a (slots_of a) s next).below) (rw is at t))
        | ends next d q is ↦ rw (torn-same (rw q at t)) o
      ]

-- so many calls more are enough
completes-in : (more : ℕ) (a : List ℕ) → image_check a ≡ Ok tt → count (nonzero_at a) (slots_of a) ≤ more → Completes more a
unfolding Completes
completes-in zero a ok h = λ any. elim (call-cases a ok any) [
  | goes s next g is ↦ absurd (omega (arith, h, step-lowers a s ok next))
  | ends next d q is ↦ d
]
completes-in (suc more) a ok h = λ any. elim (call-cases a ok any) [
  | goes s next g is ↦ inr (g, rw is (completes-in more (store_line a (header_line s free_header)) (step-accepted a s ok next) (fewer s next)))
  | ends next d q is ↦ inl d
]
  where
    fewer : (s : ℕ) → next_freed a (slots_of a) ≡ Some s
        → count (nonzero_at (store_line a (header_line s free_header))) (slots_of (store_line a (header_line s free_header))) ≤ more
    fewer s next = rw (step_keeps a s ok next).slots (omega (arith, h, step-lowers a s ok next))

-- ---- the theorem: from an image that recovery accepts, with any words in working and notes before each call and with any cuts
module _ {l a : List ℕ} {k : ℕ} (ok : image_check l ≡ Ok tt) (r : Reached l k a) where
  -- at most N calls reply "went on" ..
  pub recovery-bound : k ≤ slots_of l
  recovery-bound = omega (arith, (way l ok r).few)

  -- .. none declines, and where cuts cease one replies "done"
  pub recovery-completes : Completes (slots_of l - k) a
  recovery-completes =
      let o = way l ok r in
      completes-in (slots_of l - k) a o.ok (rw o.same.slots (omega (arith, o.few)))

  -- .. and then both images hold the survivors of l and nothing else
  pub recovery-rebuilds : (any : AnyWords a) → (call a any).reply ≡ Ok Done → Rebuilt l (length any.transient) (call a any).store
  recovery-rebuilds any e = elim (call-cases a (way l ok r).ok any) [
    | goes s next g is ↦ other-reply (sym e ∙ g)
    | ends next d q is ↦ rw is (arrived (length any.transient) (any-threads any) (way l ok r) next)
  ]

-- ---- a refused recover call leaves the store as it was
pub recover-keeps : (st : Store) (r : Refusal) → (recover st).reply ≡ Err r → (recover st).store ≡ st
unfolding recover
recover-keeps st r = go (recover_check st)
  where
    n : ℕ
    n = slots_of st.persistent

    w : ℕ
    w = width_of st.persistent

    freed : (f : Option ℕ) → (freeing f st n w).reply ≡ Err r → (freeing f st n w).store ≡ st
    freed (Some s) d = let z : ◌≡◌ {A = ℕ} 0 1 = cc in absurd (omega arith)
    freed None d = let z : ◌≡◌ {A = ℕ} 0 1 = cc in absurd (omega arith)

    next : Outcome (Result Recovery Refusal)
    next = freeing (next_freed st.persistent n) st n w

    go : (k : Check) → (after_check k Err st next).reply ≡ Err r → (after_check k Err st next).store ≡ st
    go (Err q) d = refl
    go (Ok _) d = freed (next_freed st.persistent n) d
