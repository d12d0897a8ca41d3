-- What contracts inside are about: the parts of the check, the answers of the walks; and a buffer for an image's bytes.
use Rattle.std.specs.Prelude.{◌≡◌, ℕ, ◌*◌, ◌/◌, ◌%◌, ◌≤◌, Bool, true, not, ◌&&◌, ◌||◌, List, length, ◌==◌, nat_le, Ok}
use Rattle.std.proofs.Common.{sym, ◌∙◌, leb-true, eqb-true, arith, div-add-mod'}
use Rattle.search.specs.Bools.{and_left, and_right}
use Rattle.search.specs.Some.{any_of, every}
use Rattle.reply.specs.declared.Refusal.TheVariants.{BadSizes, BadClock, BadSlot, Duplicate}
use Rattle.reply.specs.Refusals.{Check, refuse}
use Rattle.image.specs.declared.header.Header.{Header}
use Rattle.image.specs.Layout.{header, clock_of, shape_ok, clock_ok}
use Rattle.image.specs.Name.{name_at, misnamed}
use Rattle.image.specs.Bytes.{Decodes}
use Rattle.survival.specs.Survivors.{kept, survivor}
use Rattle.acceptance.specs.Accept.{proper, version_below, name_below}
use Rattle.acceptance.specs.Questions.{bytes_ok}

-- ---- the parts of `image_check`, in its words: refusals 1 and 2, 3 and 4, a survivor without a proper name
unfoldable pub head_check : List ℕ → Check
head_check l = refuse (not (shape_ok l)) BadSizes (refuse (not (clock_ok (clock_of l))) BadClock (Ok tt))

unfoldable pub nameless : List ℕ → ℕ → ℕ → ℕ → Bool
nameless l n w s = survivor l n s && misnamed (name_at l n w s)

unfoldable pub slots_check : List ℕ → ℕ → ℕ → Check
slots_check l n w =
    refuse (not (every (λ s. proper (clock_of l) (header l s)) n) || any_of (nameless l n w) n) BadSlot
    (refuse (any_of (version_below (clock_of l) (header l)) n || any_of (name_below l n w) n) Duplicate (Ok tt))

-- a kept header g with the uid and epoch of h
unfoldable pub same_version : ℕ → Header → Header → Bool
same_version c h g = kept c g && (g.uid == h.uid && g.epoch == h.epoch)

-- ---- what the walks of `slots_check` answer
unfoldable pub all_proper : List ℕ → ℕ → Bool
all_proper l n = every (λ s. proper (clock_of l) (header l s)) n

unfoldable pub some_nameless : List ℕ → ℕ → ℕ → Bool
some_nameless l n w = any_of (nameless l n w) n

unfoldable pub version_twice : List ℕ → ℕ → Bool
version_twice l n = any_of (version_below (clock_of l) (header l)) n

unfoldable pub name_twice : List ℕ → ℕ → ℕ → Bool
name_twice l n w = any_of (name_below l n w) n

-- ---- bytes that make whole words, and a buffer for the largest image
pub record Buffered (bytes words : List ℕ) : Type 0 where
  pub whole : length bytes ≡ 4 * (length bytes / 4)
  pub few : length bytes ≤ 53260
  pub long : length words ≡ 13315

-- ---- how they are made
pub buffered : {bytes words : List ℕ} {b : Bool} → b ≡ bytes_ok (length bytes) → b ≡ true → length words ≡ 13315 → Buffered bytes words
unfolding bytes_ok
buffered {bytes} e t long =
    let z : length bytes % 4 ≡ 0 = eqb-true _ _ (and_left (length bytes % 4 == 0) (nat_le (length bytes) 53260) (sym e ∙ t)) in
    record {
      whole = omega (arith, div-add-mod' (length bytes) 4);
      few = leb-true _ _ (and_right (length bytes % 4 == 0) (nat_le (length bytes) 53260) (sym e ∙ t));
      long = long;
    }

pub decodes : {bytes words : List ℕ} → Buffered bytes words → Decodes bytes words (length bytes / 4)
decodes z = record { whole = z.whole; room = omega (arith, z.whole, z.few, z.long) }
