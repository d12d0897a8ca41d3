-- What the look-ups of a call say of the table that the invariant sees.
use Rattle.reply.specs.declared.Refusal.TheVariants.{Newer}
use Rattle.reply.specs.declared.Refusal.{Refusal}
use Rattle.std.specs.Prelude.{ℕ, ◌≤◌, ◌<◌, ◌≡◌, refl, true, false, ◌≢◌, leb, Option, Some, None, Result, Ok, Err}
use Rattle.std.proofs.Math.Path.{sym}
use Rattle.std.proofs.Common.{◌∙◌, eqb-true, eq-eqb, lt-ltb}
use Rattle.std.proofs.Math.Logic.{⊎_elim}
use Rattle.std.proofs.Math.Dec.{eqb}
use Rattle.std.proofs.lemmas.Bool.{not-true}
use native.Mathlib.Omega.{arith}
use Rattle.std.proofs.Math.Decide.{ℕ_discrete, dec_lt, dec_le}
use Rattle.search.specs.Bools.{cases, never, and_both, and_left, and_right}
use Rattle.search.specs.First.{found_first, found_nothing}
use Rattle.search.specs.Some.{some-none}
use Rattle.search.specs.Count.{count}
use Rattle.search.specs.Ring.{first_round, round-found}
use Rattle.image.specs.Layout.{is_filled, is_payload, header, contents}
use Rattle.image.specs.declared.name.Name.{Name}
use Rattle.image.specs.Name.{name_at, same-name, name-same}
use Rattle.transient.specs.declared.sizes.Sizes.{Sizes}
use Rattle.transient.specs.Layout.{note, last_at, retired_in}
use Rattle.transient.specs.Store.{Store, Table, table_of}
use Rattle.index.specs.Indexed.{indexed-listed}
use Rattle.table.specs.Find.{listed, newer_at, live_at, newer_on, live_on, live_slot, lookup, free_at, room}
use Rattle.table.specs.Requires.{newer, looked_up}
use Rattle.table.specs.Laws.{Called}
use Rattle.crash.specs.Reference.{Jobs}
use Rattle.crash.specs.Slots.{Slot, Filled, Payload, Proper}
use Rattle.guarantee.specs.Trace.{Plain}
use Rattle.guarantee.specs.View.{entry_of, view, view_in, view_out, working-name}
use Rattle.guarantee.proofs.Good.{Good}
use Rattle.guarantee.specs.Says.{payload-of, proper-filled, proper-payload}

-- ---- what a look-up says
pub record Missing (sz : Sizes) (tb : Table) (name : Name) (e : ℕ) : Type 0 where
  pub newest : newer sz tb name e ≡ false
  pub none : live_slot sz tb name ≡ None

pub record Holding (sz : Sizes) (tb : Table) (name : Name) (e s : ℕ) : Type 0 where
  pub newest : newer sz tb name e ≡ false
  pub found : live_slot sz tb name ≡ Some s

module _ (sz : Sizes) (tb : Table) (name : Name) (e : ℕ) where
  looked : (k : Result (Option ℕ) Refusal) → lookup sz tb name e ≡ k → k ≢ (Err Newer) → (newer sz tb name e ≡ false) × (looked_up (live_slot sz tb name) ≡ k)
  unfolding lookup newer
  looked k q d =
      ⊎_elim
      (λ (y : newer sz tb name e ≡ true). let z : Err Newer ≡ k = rw y at q in absurd (d (sym z)))
      (λ (y : newer sz tb name e ≡ false). (y, rw y at q))
      (cases (newer sz tb name e))

  pub absent-says : lookup sz tb name e ≡ Ok None → Missing sz tb name e
  absent-says q =
      let b = looked (Ok None) q (λ z. let y : ◌≡◌ {A = ℕ} 0 1 = cc in omega arith) in
      record { newest = b.0; none = go (live_slot sz tb name) b.1 }
    where
      go : (f : Option ℕ) → looked_up f ≡ Ok None → f ≡ None
      go (Some u) r = let z : ◌≡◌ {A = ℕ} 0 1 = cc in absurd (omega arith)
      go None r = refl

  pub live-says : {s : ℕ} → lookup sz tb name e ≡ Ok (Some s) → Holding sz tb name e s
  live-says {s} q =
      let b = looked (Ok (Some s)) q (λ z. let y : ◌≡◌ {A = ℕ} 0 1 = cc in omega arith) in
      record { newest = b.0; found = go (live_slot sz tb name) b.1 }
    where
      go : (f : Option ℕ) → looked_up f ≡ Ok (Some s) → f ≡ Some s
      go (Some u) r = let z : u ≡ s = cc in rw z
      go None r = let z : ◌≡◌ {A = ℕ} 0 1 = cc in absurd (omega arith)

-- ---- room
pub room_says : (sz : Sizes) (tb : Table) (k s : ℕ) → note last_at tb.transient < sz.n → room sz tb k ≡ Some s → (s < sz.n) × (free_at tb.working s ≡ true)
unfolding room
room_says sz tb k s h e =
    let n = sz.n in
    let free = free_at tb.working in
    ⊎_elim
    (λ (y : leb k (count free n) ≡ true). let q : first_round free n (note last_at tb.transient) n ≡ Some s = rw y at e in round-found free n (note last_at tb.transient) n s h (omega arith) q)
    (λ (y : leb k (count free n) ≡ false). let q : None ≡ Some s = rw y at e in let z : ◌≡◌ {A = ℕ} 0 1 = cc in absurd (omega arith))
    (cases (leb k (count free n)))

-- ---- the same, of the table
module _ {sz : Sizes} {start : Jobs} {st : Store} {p : Plain} (g : Good sz start st p) where
  abbrev slots : ℕ → Slot
  slots = view st sz p.clock

  -- a slot with something in it is one of the table
  pub filled_in : (m : ℕ) → Filled (slots m).working → m < sz.n
  filled_in m f = elim (dec_lt m sz.n) [ yes h ↦ h | no h ↦ absurd (empty (rw (view_out st sz p.clock m (omega arith)) at f)) ]
    where
      empty : 1 ≤ 0 → ⊥
      empty h = omega arith

  pub slot-name : (m : ℕ) → m < sz.n → (slots m).working.name ≡ name_at st.working sz.n sz.w m
  slot-name = working-name st sz p.clock (omega (arith, g.working.sized.sizes.width-lo))

  -- working headers are proper, so what has a kind is filled
  proper-at : (m : ℕ) → m < sz.n → Proper p.clock (entry_of (header st.working m) (contents st.working sz.n sz.w m))
  proper-at m h = rw (view_in st sz p.clock m h) at (g.inv.one m).proper

  pub filled_at : (m : ℕ) → m < sz.n → 1 ≤ (header st.working m).kind → is_filled (header st.working m) ≡ true
  filled_at m h k = proper-filled (header st.working m) (contents st.working sz.n sz.w m) (proper-at m h) k

  pub payload-at : (m : ℕ) → m < sz.n → Payload (entry_of (header st.working m) (contents st.working sz.n sz.w m)) → is_payload (header st.working m) ≡ true
  payload-at m h k = proper-payload (header st.working m) (contents st.working sz.n sz.w m) (proper-at m h) k.0 k.1

  pub free-says : {s : ℕ} → s < sz.n → free_at st.working s ≡ true → (slots s).working.kind ≡ 0
  unfolding free_at
  free-says {s} h f =
      rw (view_in st sz p.clock s h)
      (elim (ℕ_discrete (header st.working s).kind 0) [
        | yes z ↦ z
        | no z ↦ never _ (filled_at s h (omega arith)) (not-true _ f)
      ])

  -- a filled slot of this name is on its chain
  listed_at : {name : Name} (m : ℕ) → m < sz.n → is_filled (header st.working m) ≡ true → name_at st.working sz.n sz.w m ≡ name → listed sz st.transient name m ≡ true
  unfolding listed
  listed_at m h f q = rw q at (indexed-listed g.index m h f)

  -- refusal 9 passed: no filled slot of this name has a later epoch
  pub no-later-of : {name : Name} {e : ℕ} → newer sz (table_of st) name e ≡ false → (m : ℕ) → Filled (slots m).working → (slots m).working.name ≡ name → (slots m).working.epoch ≤ e
  unfolding newer newer_on newer_at
  no-later-of {name} {e} q m f k =
      let h = filled_in m f in
      let f' = rw (view_in st sz p.clock m h) at f in
      let off = some-none (newer_on sz (table_of st) name e) sz.n q m h in
      let full = filled_at m h f' in
      let named = sym (slot-name m h) ∙ k in
      rw (view_in st sz p.clock m h)
      (elim (dec_le (header st.working m).epoch e) [
        | yes y ↦ y
        | no y ↦ never _ (and_both (listed_at m h full named) (and_both full (and_both (name-same _ _ named) (lt-ltb e _ (omega arith))))) off
      ])

  -- no live job of this name
  pub no-live-of : {name : Name} → live_slot sz (table_of st) name ≡ None → (m : ℕ) → Payload (slots m).working → (slots m).working.name ≡ name → 1 ≤ (slots m).retired
  unfolding live_slot live_on live_at
  no-live-of {name} q m f k =
      let h = filled_in m f.0 in
      let f' = rw (view_in st sz p.clock m h) at f in
      let off = found_nothing (live_on sz (table_of st) name) sz.n q m h in
      let full = filled_at m h f'.0 in
      let named = sym (slot-name m h) ∙ k in
      rw (view_in st sz p.clock m h)
      (elim (ℕ_discrete (retired_in sz st.transient m) 0) [
        | yes z ↦ never _ (and_both (listed_at m h full named) (and_both (payload-at m h f') (and_both (eq-eqb _ 0 z) (name-same _ _ named)))) off
        | no z ↦ omega arith
      ])

  -- the live job's slot
  pub record Lives (name : Name) (s : ℕ) : Type 0 where
    pub below : s < sz.n
    pub payload : Payload (slots s).working
    pub current : (slots s).retired ≡ 0
    pub named : (slots s).working.name ≡ name

  pub lives-called : {name : Name} {s : ℕ} → Lives name s → Called sz st.working name s
  lives-called {name} {s} l =
      record {
        filled = filled_at s l.below (rw (view_in st sz p.clock s l.below) at l.payload.0);
        named = sym (slot-name s l.below) ∙ l.named;
      }

  pub live_of : {name : Name} {s : ℕ} → live_slot sz (table_of st) name ≡ Some s → Lives name s
  unfolding live_slot live_on live_at
  live_of {name} {s} q =
      let f = found_first (live_on sz (table_of st) name) sz.n q in
      let h = f.below in
      let lives = and_right (listed sz st.transient name s) _ f.passes in
      let a = is_payload (header st.working s) in
      let b = eqb (retired_in sz st.transient s) 0 in
      let rest = and_right a _ lives in
      let pay = payload-of (header st.working s) (and_left a _ lives) in
      record {
        below = h;
        payload = rw (view_in st sz p.clock s h) pay;
        current = rw (view_in st sz p.clock s h) (eqb-true _ 0 (and_left b _ rest));
        named = slot-name s h ∙ same-name _ _ (and_right b _ rest);
      }
