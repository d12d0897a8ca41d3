-- Words of working that are copied to persistent keep the invariant: any of them, by the memory, by an advance, or by what a cut leaves
-- of a line's store.
use Rattle.std.specs.Prelude.{ℕ, ◌+◌, ◌-◌, ◌≤◌, ◌≡◌, refl, List, get_or, drop}
use Rattle.std.proofs.Math.Path.{sym}
use Rattle.std.proofs.Common.{◌∙◌, inl, length-set, arith}
use Rattle.std.proofs.Math.Decide.{dec_lt}
use Rattle.image.specs.Layout.{contents_at, contents, key_at, value_at}
use Rattle.image.specs.Requires.{sized-after}
use Rattle.image.specs.Laws.{key-contents, value-contents}
use Rattle.image.specs.Torn.{Torn, torn-word, torn-part, torn-header, word-from}
use Rattle.transient.specs.declared.sizes.Sizes.{Sizes}
use Rattle.transient.specs.Store.{Store, store}
use Rattle.write_back.specs.WriteBack.{write_back}
use Rattle.write_back.specs.Ways.{back-way}
use Rattle.crash.specs.Reference.{Jobs}
use Rattle.crash.specs.Slots.{Slot}
use Rattle.crash.specs.Steps.{stored}
use Rattle.crash.proofs.Lines.{Copied, copied-inv}
use Rattle.guarantee.specs.Trace.{Plain}
use Rattle.guarantee.specs.View.{view, view_in, view_out}
use Rattle.guarantee.proofs.Good.{Image, Good}

module _ {sz : Sizes} {start : Jobs} {st : Store} {p : Plain} (g : Good sz start st p) {l : List ℕ} (t : Torn st.persistent st.working l) where
  abbrev st' : Store
  st' = store st.working l st.transient

  abbrev slots : ℕ → Slot
  slots = view st sz p.clock

  -- sizes and clock are the same in both, so they stay
  image : Image sz p.clock l
  image =
      let a = g.persistent in
      let b = g.working in
      record {
        sized = sized-after t.long a.sized;
        slots-is = torn-word t 0 (b.slots-is ∙ sym a.slots-is) ∙ a.slots-is;
        width_is = torn-word t 1 (b.width_is ∙ sym a.width_is) ∙ a.width_is;
        clock-is = torn-word t 2 (b.clock-is ∙ sym a.clock-is) ∙ a.clock-is;
      }

  some-width : 1 ≤ sz.w
  some-width = omega (arith, g.working.sized.sizes.width-lo)

  -- contents that agree stay
  key-stays : (s : ℕ) → get_or (contents st.persistent sz.n sz.w s) 0 0 ≡ get_or (contents st.working sz.n sz.w s) 0 0
      → get_or (contents l sz.n sz.w s) 0 0 ≡ get_or (contents st.working sz.n sz.w s) 0 0
  unfolding key_at
  key-stays s e =
      let a = key-contents st.persistent sz.n sz.w s some-width in
      let b = key-contents st.working sz.n sz.w s some-width in
      sym (key-contents l sz.n sz.w s some-width) ∙ torn-word t (contents_at sz.n sz.w s) (b ∙ sym e ∙ sym a) ∙ a ∙ e

  value_stays : (s : ℕ) → drop 1 (contents st.persistent sz.n sz.w s) ≡ drop 1 (contents st.working sz.n sz.w s)
      → drop 1 (contents l sz.n sz.w s) ≡ drop 1 (contents st.working sz.n sz.w s)
  unfolding value_at
  value_stays s e =
      let a = value-contents st.persistent sz.n sz.w s some-width in
      let b = value-contents st.working sz.n sz.w s some-width in
      sym (value-contents l sz.n sz.w s some-width) ∙ torn-part t (contents_at sz.n sz.w s + 1) (sz.w - 1) (b ∙ sym e ∙ sym a) ∙ a ∙ e

  -- each slot, as the crash invariant sees it
  slot_is : (s : ℕ) → view st' sz p.clock s ≡ stored (view st' sz p.clock s).persistent (slots s)
  slot_is s = elim (dec_lt s sz.n) [
    | yes h ↦ rw (view_in st' sz p.clock s h, view_in st sz p.clock s h)
    | no h ↦ rw (view_out st' sz p.clock s (omega arith), view_out st sz p.clock s (omega arith))
  ]

  slot-copied : (s : ℕ) → Copied (view st' sz p.clock s).persistent (slots s).working (slots s).persistent
  slot-copied s = elim (dec_lt s sz.n) [
    | yes h ↦
        rw (view_in st' sz p.clock s h, view_in st sz p.clock s h)
        record { head = torn-header t s; line = λ q. record { key-is = key-stays s q.key-is; value-is = value_stays s q.value-is } }
    | no h ↦
        rw (view_out st' sz p.clock s (omega arith), view_out st sz p.clock s (omega arith))
        record { head = record { kind = inl refl; epoch = inl refl; uid = inl refl; board = inl refl }; line = λ q. q }
  ]

  pub torn-good : Good sz start (store st.working l st.transient) p
  torn-good =
      record {
        clock-hi = g.clock-hi;
        working = g.working;
        persistent = image;
        notes = g.notes;
        opens = g.opens;
        past = g.past;
        index = g.index;
        inv = copied-inv g.inv slot_is slot-copied;
        fifo = g.fifo;
      }

-- ---- by the memory
pub write-back-good : {sz : Sizes} {start : Jobs} {st : Store} {p : Plain} (i : ℕ) → Good sz start st p → Good sz start (write_back st i).store p
write-back-good {sz} {start} {st} {p} i g =
    back-way (λ x. Good sz start x.store p) st i (λ r. g)
    (λ h. torn-good g (record { long = length-set st.persistent i (get_or st.working i 0); words = word-from st.working st.persistent i }))
