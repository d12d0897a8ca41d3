-- What a call does to an image: one slot gets a header and contents, and all else stays.
use Rattle.std.specs.Prelude.{ℕ, ◌+◌, ◌<◌, ◌≡◌, refl, ◌≢◌, List, ◌∷◌, length, get_or}
use Rattle.std.proofs.Common.{◌∙◌, arith}
use Rattle.image.specs.declared.header.Header.{Header}
use Rattle.image.specs.Layout.{header, contents, key_at}
use Rattle.image.specs.Line.{header_line, contents_line, store_line}
use Rattle.image.specs.Requires.{Sized, slot, header-fits, sized-after}
use Rattle.image.specs.Laws.{length-store, header-same, header-other, contents-past-header, front-past-header, contents-same, contents-other, header-past-contents, front-past-contents}
use Rattle.transient.specs.declared.sizes.Sizes.{Sizes}
use Rattle.table.specs.Fill.{filled_slot}
use Rattle.table.specs.Requires.{set_value}
use Rattle.table.specs.Laws.{length-filled, front-filled, header-filled, header-filled-other, contents-filled, contents-filled-other, value-is-contents}
use Rattle.guarantee.proofs.Good.{Image}

pub record Wrote (l l' : List ℕ) (sz : Sizes) (s : ℕ) (h : Header) (words : List ℕ) : Type 0 where
  pub long : length l' ≡ length l
  pub front : (j : ℕ) → j < 3 → get_or l' j 0 ≡ get_or l j 0
  pub header-here : header l' s ≡ h
  pub header-there : (m : ℕ) → m < sz.n → m ≢ s → header l' m ≡ header l m
  pub line-here : contents l' sz.n sz.w s ≡ words
  pub line-there : (m : ℕ) → m < sz.n → m ≢ s → contents l' sz.n sz.w m ≡ contents l sz.n sz.w m

-- such a store keeps sizes and clock
pub wrote-image : {l l' : List ℕ} {sz : Sizes} {s c : ℕ} {h : Header} {words : List ℕ} → Wrote l l' sz s h words → Image sz c l → Image sz c l'
wrote-image z i =
    record {
      sized = sized-after z.long i.sized;
      slots-is = z.front 0 (omega arith) ∙ i.slots-is;
      width_is = z.front 1 (omega arith) ∙ i.width_is;
      clock-is = z.front 2 (omega arith) ∙ i.clock-is;
    }

module _ {l : List ℕ} {sz : Sizes} {s : ℕ} (i : Sized l sz.n sz.w) (k : s < sz.n) where
  pub header-wrote : (h : Header) → Wrote l (store_line l (header_line s h)) sz s h (contents l sz.n sz.w s)
  header-wrote h =
      record {
        long = length-store l (header_line s h);
        front = λ j u. front-past-header l s j h u;
        header-here = header-same h (header-fits i k);
        header-there = λ m u d. header-other l s m h d;
        line-here = contents-past-header l sz.n sz.w s s h k;
        line-there = λ m u d. contents-past-header l sz.n sz.w s m h k;
      }

  pub contents-wrote : (words : List ℕ) → length words ≡ sz.w → Wrote l (store_line l (contents_line sz.n sz.w s words)) sz s (header l s) words
  contents-wrote words e =
      record {
        long = length-store l (contents_line sz.n sz.w s words);
        front = λ j u. front-past-contents l sz.n sz.w s j words u;
        header-here = header-past-contents l sz.n sz.w s s words k;
        header-there = λ m u d. header-past-contents l sz.n sz.w s m words u;
        line-here = contents-same words e (slot i k);
        line-there = λ m u d. contents-other l sz.n sz.w s m words e d;
      }

  pub filled-wrote : (h : Header) (words : List ℕ) → length words ≡ sz.w → Wrote l (filled_slot sz l s h words) sz s h words
  filled-wrote h words e =
      record {
        long = length-filled sz l s h words;
        front = λ j u. front-filled sz l s h words j u;
        header-here = header-filled sz l s h words (slot i k);
        header-there = λ m u d. header-filled-other sz l s h words m u d;
        line-here = contents-filled sz l s h words (slot i k) e;
        line-there = λ m u d. contents-filled-other sz l s h words m k e d;
      }

  pub value-wrote : (v : List ℕ) → length v + 1 ≡ sz.w → Wrote l (set_value sz l s v) sz s (header l s) (key_at l sz.n sz.w s ∷ v)
  value-wrote v e = rw (value-is-contents sz l s v) (contents-wrote (key_at l sz.n sz.w s ∷ v) (omega (arith, e)))

-- an image that no store has touched
pub unwrote : {l : List ℕ} {sz : Sizes} {s : ℕ} → Wrote l l sz s (header l s) (contents l sz.n sz.w s)
unwrote = record { long = refl; front = λ j u. refl; header-here = refl; header-there = λ m u d. refl; line-here = refl; line-there = λ m u d. refl }
