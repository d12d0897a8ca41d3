-- Slots that change on the persistent side and in the waiting words only.
use Rattle.std.specs.Prelude.{ℕ, ◌≤◌, ◌≡◌, ◌↔◌}
use Rattle.image.specs.declared.name.Name.{Name}
use Rattle.crash.specs.Table.{Pairwise, Every, Any}
use Rattle.crash.specs.Slots.{Value, Entry, Slot, Shows, Two, Next}

-- the slot with another persistent side and other waiting words
abbrev pub dressed : Entry → ℕ → ℕ → Slot → Slot
dressed x now before a = record { working = a.working; persistent = x; retired = a.retired; now = now; before = before }

-- b is a so changed
pub record Dressed (a b : Slot) : Type 0 where
  pub entry : Entry
  pub now : ℕ
  pub before : ℕ
  pub is : b ≡ dressed entry now before a

module _ {f g : ℕ → Slot} (d : (s : ℕ) → Dressed (f s) (g s)) where
  -- what is said of two slots stays
  pub dressed-two : Pairwise Two f → Pairwise Two g
  dressed-two h m n q = rw ((d m).is, (d n).is) (record {
    kin = λ x y u l. let w = (h m n q).kin x y u l in search;
    disjoint = λ e x y. (h m n q).disjoint e (search) (search);
  })

  -- the next versions stay
  pub dressed-next : Every (λ s a. 1 ≤ a.retired → Any (Next a.working.uid a.retired) f) f
      → Every (λ s a. 1 ≤ a.retired → Any (Next a.working.uid a.retired) g) g
  dressed-next h s = rw (d s).is (λ r. let a = h s r in let w = a.holds in record { at = a.at; holds = rw (d a.at).is (search) })

  -- what is visible stays
  pub dressed-shows : (e : ℕ) (k : Name) (v : Value) → Shows g e k v ↔ Shows f e k v
  dressed-shows e k v = (
    λ a. let w = rw (d a.at).is at a.holds in record { at = a.at; holds = search },
    λ a. let w = a.holds in record { at = a.at; holds = rw (d a.at).is (search) },
  )
