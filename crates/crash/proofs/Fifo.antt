-- First in, first out: what one more entry of the row owes, and that the front of the working slots is the front at every threshold
-- from its operation's epoch on.
use Rattle.std.specs.Prelude.{ℕ, ◌+◌, ◌≤◌, ◌≡◌, refl, ◌≢◌, List, [], ◌∷◌, ◌++◌, Option, None, Some}
use Rattle.std.proofs.Common.{ap, ◌∙◌, inl, inr, arith}
use Rattle.std.proofs.Math.Decide.{dec_le}
use Rattle.image.specs.Layout.{queue_board}
use Rattle.image.specs.declared.name.Name.{Name}
use Rattle.image.specs.Name.{entry_name, names-meet, key-same}
use Rattle.crash.specs.Reference.{Jobs, Change, jobs_at, Front, Fifo}
use Rattle.crash.proofs.Laws.{jobs-agree}
use Rattle.crash.specs.Slots.{Value, State, Visible, Inv}
use Rattle.crash.specs.Steps.{Foremost}
use Rattle.crash.proofs.Versions.{uid-name}

-- ---- lists split at an element
module _ {A : Type 0} where
  no-split : (xs ys : List A) (y : A) → [] ≡ xs ++ (y ∷ ys) → ⊥
  no-split [] ys y e = let z : ◌≡◌ {A = ℕ} 0 1 = cc in omega arith
  no-split (x ∷ xs) ys y e = let z : ◌≡◌ {A = ℕ} 0 1 = cc in omega arith

  -- a split of a list with one more at its end: at that one, or before it
  data Cut (row : List A) (x : A) (before after : List A) (y : A) : Type 0 where
    at-end : before ≡ row → y ≡ x → Cut row x before after y
    earlier : (rest : List A) → row ≡ before ++ (y ∷ rest) → Cut row x before after y

  cut : (row : List A) (x : A) (before after : List A) (y : A) → row ++ (x ∷ []) ≡ before ++ (y ∷ after) → Cut row x before after y
  cut [] x [] after y e = at-end refl cc
  cut [] x (b ∷ before) after y e = let t : [] ≡ before ++ (y ∷ after) = cc in absurd (no-split before after y t)
  cut (r ∷ row) x [] after y e = let q : r ≡ y = cc in earlier row (rw q)
  cut (r ∷ row) x (b ∷ before) after y e =
      let q : r ≡ b = cc in
      let t : row ++ (x ∷ []) ≡ before ++ (y ∷ after) = cc in
      elim (cut row x before after y t) [ at-end p s ↦ at-end (rw (p, q)) s | earlier rest p ↦ earlier rest (rw (p, q)) ]

-- ---- the row
pub fifo-none : (e : ℕ) (start : Jobs) → Fifo e start []
fifo-none e start before after ch q = absurd (no-split before after ch q)

-- one more entry: a take owes that it took the front
pub fifo-snoc : (e : ℕ) (start : Jobs) (row : List Change) (x : Change) → Fifo e start row
    → (x.name.board ≡ queue_board → x.value ≡ None → x.epoch ≤ e → Front (jobs_at e start row) x.name.key) → Fifo e start (row ++ (x ∷ []))
fifo-snoc e start row x all last before after ch q = go (cut row x before after ch q)
  where
    go : Cut row x before after ch → ch.name.board ≡ queue_board → ch.value ≡ None → ch.epoch ≤ e → Front (jobs_at e start before) ch.name.key
    go (at-end p s) b v l = rw (p, s) (last (rw (← s) b) (rw (← s) v) (rw (← s) l))
    go (earlier rest p) b v l = all before rest ch p b v l

-- ---- the front of the working slots
module _ {e r : ℕ} {st : State} (i : Inv st) (t : Foremost e r st) where
  abbrev key : ℕ
  key = (st.slots r).working.name.key

  -- an entry that is visible at a threshold from e on is live: the version that it gave way to would be of a later epoch
  entry-live : (d m : ℕ) → e ≤ d → Visible d (st.slots m) → (st.slots m).working.name.board ≡ queue_board → (st.slots m).retired ≡ 0
  entry-live d m l w b = elim w.live [
    | inl z ↦ z
    | inr h ↦
        let a = i.next m (omega arith) in
        let same = uid-name i a.at m a.holds.filled w.payload.0 a.holds.uid-is in
        absurd (omega (arith, t.newest a.at a.holds.filled (ap (λ (x : Name). x.board) same ∙ b)))
  ]

  front_at : (d : ℕ) → e ≤ d → d ≤ st.clock → Front (jobs_at d st.start st.row) key
  front_at d l h =
      let hi : st.clock ≤ d + 2 = omega (arith, t.of.operation.epoch-lo) in
      let shown = i.shown d h hi in
      let begun = t.newest r t.of.payload.0 t.board-is in
      let v = (st.slots r).working.value in
      let is : jobs_at d st.start st.row (entry_name key) ≡ Some v =
      (shown (entry_name key) v).0 (record {
        at = r;
        holds = record {
          visible = record { payload = t.of.payload; begun = omega arith; live = inl t.of.current };
          name-is = names-meet t.board-is refl;
          value-is = refl;
        };
      }) in
      record {
        there = λ q. let z : ◌≡◌ {A = ℕ} 0 1 = cc in omega arith;
        smallest = λ k some-k. least k (jobs_at d st.start st.row (entry_name k)) refl some-k;
      }
    where
      least : (k : ℕ) (o : Option Value) → jobs_at d st.start st.row (entry_name k) ≡ o → jobs_at d st.start st.row (entry_name k) ≢ None → key ≤ k
      least k None q n = absurd (n q)
      least k (Some v) q n =
          let a = (i.shown d h (omega (arith, t.of.operation.epoch-lo)) (entry_name k) v).1 q in
          let b = ap (λ (x : Name). x.board) a.holds.name-is in
          omega (arith, t.smallest a.at a.holds.visible.payload (entry-live d a.at l a.holds.visible b) b, key-same a.holds.name-is)

  pub front-from : (d : ℕ) → e ≤ d → Front (jobs_at d st.start st.row) key
  front-from d l = elim (dec_le d st.clock) [
    | yes h ↦ front_at d l h
    | no h ↦ rw (jobs-agree st.clock d st.start st.row (omega arith) i.late) (front_at st.clock t.of.operation.epoch-hi (omega arith))
  ]
