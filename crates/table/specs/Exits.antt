-- The ways out of this crate's functions: a law for each, and for each call.
use Rattle.reply.specs.declared.Refusal.TheVariants.{Newer}
use Prim.Native.Nat.{ℕ, zero, suc, ◌+◌, ◌-◌, ◌≤◌, ◌<◌}
use Rattle.std.specs.Prelude.{◌≡◌, refl, Bool, true, ◌&&◌, List, ◌∷◌, length, get_or, set, replicate, ltb, eqb, Option, Some, None, Ok, Err}
use Rattle.std.proofs.Common.{sym, ◌∙◌, eq-or-lt_of_le, add-one, Fits}
use Rattle.std.proofs.Math.Bool.{false}
use Rattle.std.proofs.Math.Logic.{⊎_elim}
use Rattle.std.proofs.lemmas.List.{length-replicate}
use Rattle.std.proofs.Math.Dec.{leb}
use borrow.Author.Tests.{lt-ltb, le-ltb, eq-eqb, eqb-true}
use Rattle.std.proofs.Math.Decide.{dec_lt}
use native.Mathlib.Omega.{arith}
use Rattle.std.specs.Int.{w64}
use Rattle.search.specs.Bools.{cases, and_left, and_right}
use Rattle.search.specs.First.{first_of, Sought, sought-start, sought-next, sought-pass, found-hit, found-end, Next, first_next}
use Rattle.search.specs.Some.{any_of, some_at, none-some}
use Rattle.search.specs.Count.{count}
use Rattle.search.specs.Ring.{ring_slot, first_round, ring-ahead, ring-round, ring-below, Rounding, round-start, round-next, round-hit, round-end, round-found, round-one, round-another, round-alone}
use Rattle.image.specs.declared.header.Header.{Header}
use Rattle.image.specs.Layout.{jobs_board, contents_at, is_filled, is_payload, header, key_at}
use Rattle.image.specs.Line.{header_line, stored, store_line}
use Rattle.image.specs.declared.name.Name.{Name}
use Rattle.image.specs.Name.{job_name, name_at, same_name}
use Rattle.image.specs.Requires.{board_at, Slot, HeaderFits, slot_of, slot-header, slot-after}
use Rattle.image.specs.Laws.{area-top}
use Rattle.transient.specs.declared.sizes.Sizes.{Sizes}
use Rattle.transient.specs.Layout.{note, last_at, retired_in, set_note, set_retired, set_waiting}
use Rattle.transient.specs.Laws.{retired-front, waiting-long}
use Rattle.transient.specs.Store.{Table, table}
use Rattle.transient.specs.Requires.{Shaped, Entered, note-after, note-head, note-slot, shaped-slot, slot-note, slot-working, slot-head, entered-head}
use Rattle.table.specs.Find.{listed, newer_at, live_at, newer_on, live_on, live_slot, lookup, free_at, room}
use Rattle.table.specs.Fill.{filled_slot, joined, taken, freed}
use Rattle.index.specs.Index.{inserted, removed}
use Rattle.table.specs.Requires.{job_at, has_key, keyed, key_from, Keyed, Ring, RingStart, next_slot, sooner, set_value, ring-header, shaped_in, slot-value, value-slot, header-after}
use Rattle.table.specs.Laws.{key-then-value}

-- ---- newer, live: the name is the last part of the tests, and the first that is looked at: the key by the walk, then the board
and_no : (a : Bool) → false ≡ a && false
and_no true = refl
and_no false = refl

and_yes : (a : Bool) → a ≡ a && true
and_yes true = refl
and_yes false = refl

-- a slot has the name of its key's job where it is of the jobs' board
pub job-named : (z : Sizes) (wk : List ℕ) (s : ℕ) {b : ℕ} → b ≡ board_at wk s → eqb b jobs_board ≡ same_name (name_at wk z.n z.w s) (job_at z wk s)
unfolding same_name name_at key_at header
job-named z wk s e = rw (← e, eq-eqb (get_or wk (contents_at z.n z.w s) 0) (get_or wk (contents_at z.n z.w s) 0) refl)

module _ (z : Sizes) (wk : List ℕ) (name : Name) (e s : ℕ) {k : Bool} (q : k ≡ same_name (name_at wk z.n z.w s) name) where
  pub newer-other : k ≡ false → false ≡ newer_at z wk name e s
  unfolding newer_at
  newer-other d = rw (← q, d) (and_no (is_filled (header wk s)))

  module _ {h : Header} {f : Bool} (d : k ≡ true) (at : h ≡ header wk s) (fl : f ≡ is_filled h) where
    pub newer-free : f ≡ false → false ≡ newer_at z wk name e s
    unfolding newer_at
    newer-free t = rw (← at, ← fl, t)

    pub newer-epoch : f ≡ true → ltb e h.epoch ≡ newer_at z wk name e s
    unfolding newer_at
    newer-epoch t = rw (← at, ← fl, t, ← q, d)

module _ (z : Sizes) (tb : Table) (name : Name) (s : ℕ) {k : Bool} (q : k ≡ same_name (name_at tb.working z.n z.w s) name) where
  pub live-other : k ≡ false → false ≡ live_at z tb name s
  unfolding live_at
  live-other d =
      rw (← q, d, ← and_no (eqb (retired_in z tb.transient s) 0))
      (and_no (is_payload (header tb.working s)))

  module _ {h : Header} {p : Bool} (d : k ≡ true) (at : h ≡ header tb.working s) (pl : p ≡ is_payload h) where
    pub live-not : p ≡ false → false ≡ live_at z tb name s
    unfolding live_at
    live-not e = rw (← at, ← pl, e)

    pub live-retired : {r : ℕ} → p ≡ true → r ≡ retired_in z tb.transient s → eqb r 0 ≡ live_at z tb name s
    unfolding live_at
    live-retired {r} e re = rw (← at, ← pl, e, ← re, ← q, d) (and_yes (eqb r 0))

-- ---- one walk up for both: none below s is newer, and `live` is the first live one below s
pub sooner-old : (q : Bool) (s : ℕ) {live : Option ℕ} {t : ℕ} → live ≡ Some t → Some t ≡ sooner q s live
unfolding sooner
sooner-old q s o = rw o

module _ (s : ℕ) {live : Option ℕ} {b q : Bool} where
  pub sooner-here : b ≡ q → live ≡ None → b ≡ true → Some s ≡ sooner q s live
  unfolding sooner
  sooner-here e o t = rw (o, ← e, t)

  pub sooner-not : b ≡ q → live ≡ None → b ≡ false → None ≡ sooner q s live
  unfolding sooner
  sooner-not e o t = rw (o, ← e, t)

pub record Ascending (p q : ℕ → Bool) (n s : ℕ) (live : Option ℕ) : Type 0 where
  pub low : s ≤ n
  pub none : (k : ℕ) → k < s → p k ≡ false
  pub so_far : live ≡ first_of q s

pub ascending-start : (p q : ℕ → Bool) (n : ℕ) → Ascending p q n 0 None
unfolding first_of
ascending-start p q n = record { low = omega arith; none = λ k h. absurd (omega arith); so_far = refl }

module _ {p q : ℕ → Bool} {n s : ℕ} {live : Option ℕ} {a : Bool} (y : Ascending p q n s live) (h : s < n) (na : a ≡ p s) where
  ascending-newer : a ≡ true → any_of p n ≡ true
  ascending-newer t = some_at p n s h (sym na ∙ t)

  pub ascending-next : {live' : Option ℕ} → a ≡ false → live' ≡ sooner (q s) s live → Ascending p q n (s + 1) live'
  unfolding first_of sooner
  ascending-next {live'} nf m =
      record {
        low = omega arith;
        none = λ k l.
            ⊎_elim (λ (e : k ≡ s). rw e (sym na ∙ nf)) (λ (u : k < s). y.none k u) (eq-or-lt_of_le (omega arith));
        so_far = rw (add-one s, ← y.so_far) m;
      }

pub ascending-pass : {p q : ℕ → Bool} {n s : ℕ} {live : Option ℕ} (d : ℕ) → Ascending p q n s live → s + d ≤ n
    → ((j : ℕ) → s ≤ j → j < s + d → p j ≡ false) → ((j : ℕ) → s ≤ j → j < s + d → q j ≡ false) → Ascending p q n (s + d) live
unfolding sooner
ascending-pass {p} {q} {n} {s} {live} zero y h f g = let e : s + 0 ≡ s = omega arith in rw e y
ascending-pass {p} {q} {n} {s} {live} (suc d) y h f g =
    let e : s + suc d ≡ s + d + 1 = omega arith in
    let u = ascending-pass d y (omega arith) (λ j a b. f j a (omega arith)) (λ j a b. g j a (omega arith)) in
    rw e (ascending-next u (omega arith) refl (f (s + d) (omega arith) (omega arith)) (passed live (g (s + d) (omega arith) (omega arith))))
  where
    passed : {j : ℕ} (l : Option ℕ) → q j ≡ false → l ≡ sooner (q j) j l
    passed (Some t) o = refl
    passed None o = rw o

-- ---- the two walks, at a slot of the chain with the key or at the end
module _ (z : Sizes) (tb : Table) (key : ℕ) where
  next-key : {from s : ℕ} → from ≤ z.n → s ≡ key_from z tb key from → Next (keyed z tb key) z.n from s
  next-key h q = first_next (keyed z tb key) h q

  pub key-less : {s s' : ℕ} → s < z.n → s' ≡ key_from z tb key (s + 1) → z.n - s' < z.n - s
  key-less h q = omega (arith, (next-key (omega arith) q).above)

  -- a slot with the key is on the chain, and one that is not, or has another key, is neither newer nor live there
  pub record Here (s : ℕ) : Type 0 where
    pub has : key_at tb.working z.n z.w s ≡ key
    pub on : listed z tb.transient (job_name key) s ≡ true

  here : (s : ℕ) → keyed z tb key s ≡ true → Here s
  unfolding keyed has_key
  here s e =
      let a = listed z tb.transient (job_name key) s in
      record { has = eqb-true _ key (and_right a _ e); on = and_left a _ e }

  module _ (s : ℕ) (f : keyed z tb key s ≡ false) where
    another : has_key z tb.working key s ≡ false → false ≡ same_name (name_at tb.working z.n z.w s) (job_name key)
    unfolding has_key same_name name_at key_at
    another k = rw k

    other : listed z tb.transient (job_name key) s ≡ true → false ≡ same_name (name_at tb.working z.n z.w s) (job_name key)
    unfolding keyed
    other t = let k : has_key z tb.working key s ≡ false = rw t at f in another k

    newer-none : (e : ℕ) → newer_on z tb (job_name key) e s ≡ false
    unfolding newer_on
    newer-none e =
        ⊎_elim
        (λ (t : listed z tb.transient (job_name key) s ≡ true). rw t (sym (newer-other z tb.working (job_name key) e s (other t) refl)))
        (λ (u : listed z tb.transient (job_name key) s ≡ false). rw u)
        (cases (listed z tb.transient (job_name key) s))

    live-none : live_on z tb (job_name key) s ≡ false
    unfolding live_on
    live-none =
        ⊎_elim
        (λ (t : listed z tb.transient (job_name key) s ≡ true). rw t (sym (live-other z tb (job_name key) s (other t) refl)))
        (λ (u : listed z tb.transient (job_name key) s ≡ false). rw u)
        (cases (listed z tb.transient (job_name key) s))

  -- what is asked of a slot with the key
  module _ {s : ℕ} (y : Here s) {a : Bool} where
    newer-here : (e : ℕ) → a ≡ newer_at z tb.working (job_at z tb.working s) e s → a ≡ newer_on z tb (job_name key) e s
    unfolding newer_on
    newer-here e q = rw y.on (rw y.has at q)

    live_here : a ≡ live_at z tb (job_at z tb.working s) s → a ≡ live_on z tb (job_name key) s
    unfolding live_on
    live_here q = rw y.on (rw y.has at q)

  pub record Finding (s : ℕ) : Type 0 where
    pub at : s < z.n → Here s
    pub sought : Sought (live_on z tb (job_name key)) z.n s

  pub record LookingUp (e s : ℕ) (live : Option ℕ) : Type 0 where
    pub at : s < z.n → Here s
    pub walk : Ascending (newer_on z tb (job_name key) e) (live_on z tb (job_name key)) z.n s live

  -- on to the next slot with the key
  module _ {from s : ℕ} (h : from ≤ z.n) (q : s ≡ key_from z tb key from) where
    next : Next (keyed z tb key) z.n from s
    next = next-key h q

    reached : from + (s - from) ≡ s
    reached = omega (arith, next.above)

    find-on : Sought (live_on z tb (job_name key)) z.n from → Finding s
    find-on y =
        record {
          at = λ b. here s (next.passes b);
          sought = rw reached at (sought-pass (s - from) y (omega (arith, next.top)) (λ j a b. live-none j (next.before j a (omega arith))));
        }

    look-on : {e : ℕ} {live : Option ℕ} → Ascending (newer_on z tb (job_name key) e) (live_on z tb (job_name key)) z.n from live → LookingUp e s live
    look-on {e} y =
        record {
          at = λ b. here s (next.passes b);
          walk =
              rw reached at
              (ascending-pass (s - from) y (omega (arith, next.top)) (λ j a b. newer-none j (next.before j a (omega arith)) e)
              (λ j a b. live-none j (next.before j a (omega arith))));
        }

  -- the first live slot
  pub finding-start : {s : ℕ} → s ≡ key_from z tb key 0 → Finding s
  finding-start q = find-on (omega arith) q (sought-start _ z.n)

  module _ {s : ℕ} (y : Finding s) where
    pub finding-end : z.n ≤ s → None ≡ live_slot z tb (job_name key)
    unfolding live_slot
    finding-end h = found-end y.sought h

    module _ {a : Bool} (h : s < z.n) (q : a ≡ live_at z tb (job_at z tb.working s) s) where
      pub finding-hit : a ≡ true → Some s ≡ live_slot z tb (job_name key)
      unfolding live_slot
      finding-hit t = found-hit y.sought h (live_here (y.at h) q) t

      pub finding-next : {s' : ℕ} → a ≡ false → s' ≡ key_from z tb key (s + 1) → Finding s'
      finding-next f k = find-on (omega arith) k (sought-next y.sought h (live_here (y.at h) q) f)

  -- both questions
  pub looking-start : (e : ℕ) {s : ℕ} → s ≡ key_from z tb key 0 → LookingUp e s None
  looking-start e q = look-on (omega arith) q (ascending-start _ _ z.n)

  module _ (e : ℕ) {s : ℕ} {live : Option ℕ} (y : LookingUp e s live) where
    module _ {a : Bool} (h : s < z.n) (q : a ≡ newer_at z tb.working (job_at z tb.working s) e s) where
      pub lookup-later : a ≡ true → Err Newer ≡ lookup z tb (job_name key) e
      unfolding lookup
      lookup-later t = rw (ascending-newer y.walk h (newer-here (y.at h) e q) t)

      pub looking-next : {live' : Option ℕ} {s' : ℕ} → a ≡ false → live' ≡ sooner (live_at z tb (job_at z tb.working s) s) s live
          → s' ≡ key_from z tb key (s + 1) → LookingUp e s' live'
      looking-next f m k =
          look-on (omega arith) k (ascending-next y.walk h (newer-here (y.at h) e q) f (rw (live_here (y.at h) refl) at m))

    none-newer : z.n ≤ s → any_of (newer_on z tb (job_name key) e) z.n ≡ false
    none-newer h = none-some (newer_on z tb (job_name key) e) z.n (λ k l. y.walk.none k (omega (arith, y.walk.low)))

    pub lookup-found : z.n ≤ s → Ok live ≡ lookup z tb (job_name key) e
    unfolding lookup live_slot
    lookup-found h = let b : s ≡ z.n = omega (arith, y.walk.low) in rw (none-newer h, y.walk.so_far, b)

-- the next slot is asked for from one of the chain
module _ {wk tr : List ℕ} {z : Sizes} (key : ℕ) {s : ℕ} (y : Shaped wk tr z) (h : s < z.n) where
  pub finding-keyed : Finding z (table wk tr) key s → Keyed wk tr z key s
  finding-keyed u = record { shaped = y; within = h; on = (u.at h).on }

  pub looking-keyed : {e : ℕ} {live : Option ℕ} → LookingUp z (table wk tr) key e s live → Keyed wk tr z key s
  looking-keyed u = record { shaped = y; within = h; on = (u.at h).on }

-- ---- round the table: the walk has met k slots, and s is the last of them
module _ (n s : ℕ) where
  pub next-ahead : s + 1 < n → s + 1 ≡ next_slot n s
  unfolding next_slot
  next-ahead h = rw (lt-ltb (s + 1) n h)

  pub next-round : n ≤ s + 1 → 0 ≡ next_slot n s
  unfolding next_slot
  next-round h = rw (le-ltb (s + 1) n h)

-- what follows the slot of one step is that of the next
slot-follows : (n last k : ℕ) → last < n → k + 1 < n → next_slot n (ring_slot n last k) ≡ ring_slot n last (k + 1)
slot-follows n last k a b = elim (dec_lt (last + 1 + k) n) [
  | yes h ↦ elim (dec_lt (last + 1 + k + 1) n) [
    | yes i ↦ let e : last + 1 + k + 1 ≡ last + 1 + (k + 1) = omega arith in
        rw (← ring-ahead n last k h, ← next-ahead n (last + 1 + k) i, e) (ring-ahead n last (k + 1) (omega arith))
    | no i ↦ let e : last + 1 + (k + 1) - n ≡ 0 = omega arith in
        rw (← ring-ahead n last k h, ← next-round n (last + 1 + k) (omega arith)) (rw e at (ring-round n last (k + 1) (omega arith)))
  ]
  | no h ↦ let e : last + 1 + k - n + 1 ≡ last + 1 + (k + 1) - n = omega arith in
      rw (← ring-round n last k (omega arith), ← next-ahead n (last + 1 + k - n) (omega arith), e) (ring-round n last (k + 1) (omega arith))
]

first-follows : (n last : ℕ) → last < n → next_slot n last ≡ ring_slot n last 0
first-follows n last a = elim (dec_lt (last + 1) n) [
  | yes h ↦ let e : last + 1 + 0 ≡ last + 1 = omega arith in rw (← next-ahead n last h) (rw e at (ring-ahead n last 0 (omega arith)))
  | no h ↦ let e : last + 1 + 0 - n ≡ 0 = omega arith in rw (← next-round n last (omega arith)) (rw e at (ring-round n last 0 (omega arith)))
]

pub record Turning (p : ℕ → Bool) (n last steps k s : ℕ) : Type 0 where
  pub rounding : Rounding p n last steps k
  pub from : last < n
  pub few : steps ≤ n
  pub within : s < n
  pub follows : k < n → next_slot n s ≡ ring_slot n last k

module _ {wk : List ℕ} {n last steps : ℕ} (z : RingStart wk n last steps) where
  pub turning-start : (p : ℕ → Bool) → Turning p n last steps 0 last
  turning-start p = record { rounding = round-start p n last steps; from = z.from; few = z.few; within = z.from; follows = λ h. first-follows n last z.from }

  pub turning-ring : {p : ℕ → Bool} {k s : ℕ} → Turning p n last steps k s → Ring n s
  turning-ring y = record { slots-hi = z.slots-hi; below = y.within }

  pub turning-header : {p : ℕ → Bool} {k s s' : ℕ} → Turning p n last steps k s → k < steps → s' ≡ next_slot n s → HeaderFits wk n s'
  turning-header y h e = ring-header z h (e ∙ y.follows (omega (arith, z.few)))

module _ {p : ℕ → Bool} {n last steps k s : ℕ} (y : Turning p n last steps k s) where
  pub turning-end : steps ≤ k → None ≡ first_round p n last steps
  turning-end h = round-end y.rounding h

  module _ {s' : ℕ} {r : Bool} (h : k < steps) (e : s' ≡ next_slot n s) (t : r ≡ p s') where
    is : s' ≡ ring_slot n last k
    is = e ∙ y.follows (omega (arith, y.few))

    pub turning-hit : r ≡ true → Some s' ≡ first_round p n last steps
    turning-hit f = round-hit y.rounding h is t f

    pub turning-next : r ≡ false → Turning p n last steps (k + 1) s'
    turning-next f =
        record {
          rounding = round-next y.rounding h is t f;
          from = y.from;
          few = y.few;
          within = rw is (ring-below n last k y.from (omega (arith, y.few)));
          follows = λ l. rw is (slot-follows n last k y.from l);
        }

-- ---- free slots
module _ (wk : List ℕ) (s : ℕ) {h : Header} {f : Bool} (at : h ≡ header wk s) (fl : f ≡ is_filled h) where
  pub free-no : f ≡ true → false ≡ free_at wk s
  unfolding free_at
  free-no t = rw (← at, ← fl, t)

  pub free-yes : f ≡ false → true ≡ free_at wk s
  unfolding free_at
  free-yes t = rw (← at, ← fl, t)

module _ {wk tr : List ℕ} {z : Sizes} {last : ℕ} (y : Entered wk tr z) (la : last ≡ note last_at tr) where
  pub rooms-all : RingStart wk z.n last z.n
  rooms-all =
      record {
        long = omega (arith, y.shaped.working.long);
        slots-hi = y.shaped.working.sizes.slots-hi;
        from = omega (arith, la, y.last);
        few = omega arith;
      }

  module _ {f : Option ℕ} (e : f ≡ first_round (free_at wk) z.n last z.n) where
    round_is : f ≡ first_round (free_at wk) z.n (note last_at tr) z.n
    round_is = rw la at e

    none_free : (k : ℕ) → f ≡ None → None ≡ room z (table wk tr) k
    unfolding room
    none_free k a =
        ⊎_elim
        (λ (t : leb k (count (free_at wk) z.n) ≡ true). rw (t, ← round_is, a))
        (λ (u : leb k (count (free_at wk) z.n) ≡ false). rw u)
        (cases (leb k (count (free_at wk) z.n)))

    one_free : {s : ℕ} → f ≡ Some s → f ≡ room z (table wk tr) 1
    unfolding room
    one_free {s} a = rw (round-one (free_at wk) z.n (note last_at tr) s y.last (sym round_is ∙ a)) round_is

    pub room-one : f ≡ room z (table wk tr) 1
    room-one = go f refl
      where
        go : (g : Option ℕ) → f ≡ g → f ≡ room z (table wk tr) 1
        go (Some s) q = one_free q
        go None q = q ∙ none_free 1 q

    pub room-none : f ≡ None → None ≡ room z (table wk tr) 2
    room-none a = none_free 2 a

    module _ {s : ℕ} (a : f ≡ Some s) where
      free-s : (s < z.n) × (free_at wk s ≡ true)
      free-s = round-found (free_at wk) z.n (note last_at tr) z.n s y.last (omega arith) (sym round_is ∙ a)

      pub rooms-rest : RingStart wk z.n s (z.n - 1)
      rooms-rest = record { long = rooms-all.long; slots-hi = rooms-all.slots-hi; from = free-s.0; few = omega arith }

      module _ {g : Option ℕ} (o : g ≡ first_round (free_at wk) z.n s (z.n - 1)) where
        pub room-two : {u : ℕ} → g ≡ Some u → Some s ≡ room z (table wk tr) 2
        unfolding room
        room-two {u} b = rw (round-another (free_at wk) z.n s u free-s.0 free-s.1 (sym o ∙ b), ← round_is, a)

        pub room-alone : g ≡ None → None ≡ room z (table wk tr) 2
        unfolding room
        room-alone b = rw (round-alone (free_at wk) z.n s free-s.0 free-s.1 (sym o ∙ b))

-- ---- filling
module _ {l : List ℕ} {n w s b : ℕ} (y : Slot l n w s) (at : b ≡ contents_at n w s) where
  pub key_in : b < length l
  key_in = omega (arith, y.room, y.sized.long, y.sized.sizes.width-lo)

  pub value-fits : Fits w64 (b + 1)
  value-fits = omega (arith, y.room, area-top y.sized.sizes, y.sized.sizes.slots-hi)

  pub value_room : b + 1 + (w - 1) ≤ length l
  value_room = omega (arith, y.room, y.sized.long, y.sized.sizes.width-lo)

pub key_set : (l : List ℕ) (key : ℕ) {b i : ℕ} → b ≡ i → set l b key ≡ set l i key
key_set l key at = rw at

pub value_set : (z : Sizes) (l : List ℕ) (s : ℕ) (value : List ℕ) {b : ℕ} {l' : List ℕ} → length value ≡ z.w - 1 → b ≡ contents_at z.n z.w s
    → l' ≡ stored l (b + 1) value (z.w - 1) → l' ≡ set_value z l s value
unfolding set_value store_line
value_set z l s value long at e = rw (long, ← at) e

module _ (z : Sizes) (l : List ℕ) (s key : ℕ) (h : Header) {a b c : List ℕ} (first : a ≡ set l (contents_at z.n z.w s) key) (last : c ≡ store_line b (header_line s h)) where
  pub filled-value : (value : List ℕ) → b ≡ set_value z a s value → c ≡ filled_slot z l s h (key ∷ value)
  unfolding filled_slot
  filled-value value e = rw (last, e, first, key-then-value z l s value key)

  pub filled-zeros : {i : ℕ} → i ≡ contents_at z.n z.w s → b ≡ stored a (i + 1) (replicate (z.w - 1) 0) (z.w - 1) → c ≡ filled_slot z l s h (key ∷ replicate (z.w - 1) 0)
  filled-zeros at e = filled-value (replicate (z.w - 1) 0) (value_set z a s (replicate (z.w - 1) 0) (length-replicate (z.w - 1) 0) at e)

-- ---- notes
module _ (z : Sizes) (tr : List ℕ) (e s : ℕ) where
  pub joined-long : length (joined z tr e s) ≡ length tr
  unfolding joined
  joined-long = waiting-long (set_retired z tr s 0) z e s ∙ (retired-front tr z s 0).head.long

  pub joined-done : {b c : List ℕ} → b ≡ set_retired z tr s 0 → c ≡ set_waiting b e s → c ≡ joined z tr e s
  unfolding joined
  joined-done r u = rw (u, r)

  pub taken-done : (name : Name) {m : ℕ} {a b c : List ℕ} → m ≡ s → a ≡ set_note last_at tr m → b ≡ joined z a e s → c ≡ inserted z b name s → c ≡ taken z tr e s name
  unfolding taken
  taken-done name p q r u = rw (u, r, q, p)

  pub freed-done : (name : Name) {b c : List ℕ} → b ≡ joined z tr e s → c ≡ removed z b name s → c ≡ freed z tr e s name
  unfolding freed
  freed-done name r u = rw (u, r)

pub ruleset finds = (next-ahead, next-round, turning-start, turning-ring, turning-header, turning-end, turning-hit, turning-next, shaped-slot, shaped_in, slot-note, slot-working, slot-head, slot-header, job-named, newer-other, newer-free, newer-epoch, live-other, live-not, live-retired, sooner-old, sooner-here, sooner-not, key-less, finding-keyed, looking-keyed, finding-start, finding-next, finding-hit, finding-end, looking-start, looking-next, lookup-later, lookup-found, free-no, free-yes, entered-head, rooms-all, rooms-rest, room-one, room-none, room-two, room-alone)

pub ruleset fills = (slot_of, key_in, value-fits, value_room, key_set, value_set, slot-value, value-slot, slot-after, header-after, filled-value, filled-zeros, note-head, note-slot, note-after, joined-long, taken-done, joined-done, freed-done)
