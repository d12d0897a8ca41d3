-- The name of a job or of a queue's entry: one definition, and one test with its laws.
use Rattle.std.specs.Prelude.{ℕ, ◌≤◌, ◌≡◌, refl, ◌≢◌, Bool, true, false, ◌&&◌, ◌||◌, List, get_or, ltb, eqb}
use Rattle.std.proofs.Common.{sym, ap, ◌∙◌, inl, inr, eqb-true, eq-eqb, ne_eqb, ltb-true, ltb-false, arith}
use Rattle.std.proofs.lemmas.Bool.{eqb-false}
use Rattle.search.specs.Bools.{cases, never, refuted, and_left, and_right, and_both, or_left, or_right}
use Rattle.image.specs.declared.name.Name.{Name}
use Rattle.image.specs.Layout.{most_number, jobs_board, queue_board, contents_at, header, key_at}

-- 02, No. 2: "Keys are unique within a board": a name is a board and a key
abbrev pub job_name : ℕ → Name
job_name key = record { board = jobs_board; key = key }

-- 02, No. 3: "The key is an order number"
abbrev pub entry_name : ℕ → Name
entry_name order = record { board = queue_board; key = order }

-- the name of what a slot holds
unfoldable pub name_at : List ℕ → ℕ → ℕ → ℕ → Name
name_at l n w s = record { board = (header l s).board; key = get_or l (contents_at n w s) 0 }

unfoldable pub same_name : Name → Name → Bool
same_name a b = eqb a.key b.key && eqb a.board b.board

-- what condition 3 does not let survive: "a survivor with key 0", "a board 2 survivor with key above 4,000,000,000"
unfoldable pub misnamed : Name → Bool
misnamed name = eqb name.key 0 || (eqb name.board queue_board && ltb most_number name.key)

pub record Named (name : Name) : Type 0 where
  pub some : name.key ≢ 0
  pub top : name.board ≡ queue_board → name.key ≤ most_number

abbrev pub name_of : ℕ → ℕ → Name
name_of b k = record { board = b; key = k }

-- ---- the tests say what they ask
pub names-meet : {a b : Name} → a.board ≡ b.board → a.key ≡ b.key → a ≡ b
names-meet p q = λ i. record { board = p i; key = q i }

pub key-same : {a b : Name} → a ≡ b → a.key ≡ b.key
key-same e = ap (λ (x : Name). x.key) e

pub same-name : (a b : Name) → same_name a b ≡ true → a ≡ b
unfolding same_name
same-name a b e =
    let k = eqb a.key b.key in
    names-meet (eqb-true a.board b.board (and_right k _ e)) (eqb-true a.key b.key (and_left k _ e))

pub name-same : (a b : Name) → a ≡ b → same_name a b ≡ true
unfolding same_name
name-same a b e = and_both (eq-eqb a.key b.key (key-same e)) (eq-eqb a.board b.board (ap (λ (x : Name). x.board) e))

pub name-other : (a b : Name) → a ≢ b → same_name a b ≡ false
name-other a b e = refuted (same_name a b) (λ t. e (same-name a b t))

pub misnamed-false : (a : Name) → misnamed a ≡ false → Named a
unfolding misnamed
misnamed-false a e =
    let k = eqb a.key 0 in
    record {
      some = eqb-false a.key 0 (or_left k _ e);
      top = λ q. ltb-false most_number a.key (rw (eq-eqb a.board queue_board q) at (or_right k _ e));
    }

pub named-says : (a : Name) → Named a → misnamed a ≡ false
unfolding misnamed
named-says a n = rw (ne_eqb a.key 0 n.some) (refuted (eqb a.board queue_board && ltb most_number a.key) high)
  where
    high : eqb a.board queue_board && ltb most_number a.key ≡ true → ⊥
    high e =
        let q = eqb a.board queue_board in
        omega (arith, n.top (eqb-true a.board queue_board (and_left q _ e)), ltb-true most_number a.key (and_right q _ e))

pub name-dec : Discrete Name
name-dec a b = elim (cases (same_name a b)) [
  | inl t ↦ yes (same-name a b t)
  | inr f ↦ no (λ e. never (same_name a b) (name-same a b e) f)
]

-- a board and a key make the name
pub name-is : (l : List ℕ) (n w s : ℕ) → name_at l n w s ≡ name_of (header l s).board (key_at l n w s)
unfolding name_at key_at
name-is l n w s = refl

pub name-kept : (l l' : List ℕ) (n w s : ℕ) → (header l' s).board ≡ (header l s).board → key_at l' n w s ≡ key_at l n w s → name_at l' n w s ≡ name_at l n w s
name-kept l l' n w s b k = name-is l' n w s ∙ names-meet b k ∙ sym (name-is l n w s)
