-- A store seen as a table of slots, for the crash invariant: what each slot holds in both images and in the notes.
use Rattle.std.specs.Prelude.{ℕ, ◌+◌, ◌≤◌, ◌<◌, ◌≡◌, cond, ◌&&◌, ◌≢◌, List, [], get_or, drop, leb, ltb, eqb}
use Rattle.std.proofs.Common.{sym, lt-ltb, le-ltb, arith}
use Rattle.std.proofs.Math.Decide.{dec_lt}
use Rattle.search.specs.Bools.{flag}
use Rattle.image.specs.declared.header.Header.{Header}
use Rattle.image.specs.Layout.{header, contents, value_at}
use Rattle.image.specs.Name.{name_of, name_at}
use Rattle.image.specs.Laws.{name-contents, value-contents}
use Rattle.transient.specs.declared.sizes.Sizes.{Sizes}
use Rattle.transient.specs.Store.{Store}
use Rattle.transient.specs.Layout.{retired_in, is_waiting}
use Rattle.step.specs.Step.{reclaim_next, contents_next, header_next, clock_next}
use Rattle.crash.specs.Table.{Put, Put2}
use Rattle.crash.specs.Slots.{Entry, Slot, Place}
use Rattle.crash.specs.Steps.{entry}

abbrev pub entry_of : Header → List ℕ → Entry
entry_of h words = entry h.kind h.epoch h.uid (name_of h.board (get_or words 0 0)) (drop 1 words)

-- `before` is the list of c − 1, which is kept where that of c + 1 will be
abbrev pub slot_of : Store → Sizes → ℕ → ℕ → Slot
slot_of st sz c s =
    record {
      working = entry_of (header st.working s) (contents st.working sz.n sz.w s);
      persistent = entry_of (header st.persistent s) (contents st.persistent sz.n sz.w s);
      retired = retired_in sz st.transient s;
      now = flag (is_waiting st.transient c s);
      before = flag (is_waiting st.transient (c + 1) s);
    }

abbrev pub no_slot : Slot
no_slot = record { working = entry 0 0 0 (name_of 0 0) []; persistent = entry 0 0 0 (name_of 0 0) []; retired = 0; now = 0; before = 0 }

-- slots out of range are free
unfoldable pub view : Store → Sizes → ℕ → ℕ → Slot
view st sz c s = cond (ltb s sz.n) (slot_of st sz c s) no_slot

-- how far the advance has come, by the place in the notes
unfoldable pub progress : ℕ → ℕ → ℕ → Place
progress n phase slot =
    record {
      looked = cond (eqb phase reclaim_next) slot (cond (leb contents_next phase && leb phase clock_next) n 0);
      flushed = cond (eqb phase contents_next) slot (cond (eqb phase header_next) slot (cond (eqb phase clock_next) n 0));
      half = cond (eqb phase header_next) 1 0;
    }

module _ (st : Store) (sz : Sizes) (c : ℕ) where
  pub view_in : (s : ℕ) → s < sz.n → view st sz c s ≡ slot_of st sz c s
  unfolding view
  view_in s h = rw (lt-ltb s sz.n h)

  pub view_out : (s : ℕ) → sz.n ≤ s → view st sz c s ≡ no_slot
  unfolding view
  view_out s h = rw (le-ltb s sz.n h)

-- ---- a slot's name and value are those that are read there
module _ (st : Store) (sz : Sizes) (c : ℕ) (wide : 1 ≤ sz.w) (s : ℕ) (h : s < sz.n) where
  pub working-name : (view st sz c s).working.name ≡ name_at st.working sz.n sz.w s
  working-name = rw (view_in st sz c s h) (sym (name-contents st.working sz.n sz.w s wide))

  pub working-value : (view st sz c s).working.value ≡ value_at st.working sz.n sz.w s
  working-value = rw (view_in st sz c s h) (sym (value-contents st.working sz.n sz.w s wide))

  pub persistent-name : (view st sz c s).persistent.name ≡ name_at st.persistent sz.n sz.w s
  persistent-name = rw (view_in st sz c s h) (sym (name-contents st.persistent sz.n sz.w s wide))

  pub persistent-value : (view st sz c s).persistent.value ≡ value_at st.persistent sz.n sz.w s
  persistent-value = rw (view_in st sz c s h) (sym (value-contents st.persistent sz.n sz.w s wide))

-- ---- from slots to tables
module _ (a b : Store) (sz : Sizes) (c : ℕ) where
  -- b holds in slot m what a holds there
  abbrev pub Alike : ℕ → Type 0
  Alike m = slot_of b sz c m ≡ slot_of a sz c m

  pub same_view : (m : ℕ) → (m < sz.n → Alike m) → view b sz c m ≡ view a sz c m
  unfolding view
  same_view m h = elim (dec_lt m sz.n) [
    | yes q ↦ rw (lt-ltb m sz.n q) (h q)
    | no q ↦ rw (le-ltb m sz.n (omega arith))
  ]

  pub view-put : (s : ℕ) (x : Slot) → s < sz.n → slot_of b sz c s ≡ x → ((m : ℕ) → m < sz.n → m ≢ s → Alike m)
      → Put (view a sz c) (view b sz c) s x
  view-put s x h here there =
      record { here = rw (view_in b sz c s h) here; there = λ m d. same_view m (λ q. there m q d) }

  pub view-put2 : (s r : ℕ) (x y : Slot) → s < sz.n → r < sz.n → s ≢ r → slot_of b sz c s ≡ x → slot_of b sz c r ≡ y
      → ((m : ℕ) → m < sz.n → m ≢ s → m ≢ r → Alike m)
      → Put2 (view a sz c) (view b sz c) s x r y
  view-put2 s r x y h k d here there rest =
      record {
        apart = d;
        first = rw (view_in b sz c s h) here;
        second = rw (view_in b sz c r k) there;
        rest = λ m p q. same_view m (λ z. rest m z p q);
      }
