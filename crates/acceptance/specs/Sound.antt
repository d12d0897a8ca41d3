-- What an accepted image is sure of, slot by slot.
use Rattle.std.specs.Prelude.{◌≡◌, ℕ, ◌<◌, ◌≤◌, true, false, not, ◌||◌, leb, ◌⊎◌, List, nat_le, Ok}
use Rattle.std.proofs.Common.{sym, ◌∙◌, inl, inr, ⊎_elim, leb-true, le-leb, eq-eqb}
use Rattle.std.proofs.lemmas.Bool.{not-false}
use Rattle.search.specs.Bools.{cases, never, and_left, and_right, and_both, or_left, or_right}
use Rattle.search.specs.Some.{any_of, some-none, none-some, every, every-at, at_every}
use Rattle.reply.specs.declared.Refusal.TheVariants.{BadSizes, BadClock, BadSlot, Duplicate}
use Rattle.reply.specs.Refusals.{refuse, not-refused, both-accepted}
use Rattle.image.specs.declared.header.Header.{Header}
use Rattle.image.specs.Layout.{most_slots, most_number, queue_board, has_zero, is_filled, header, slots_of, width_of, clock_of, sizes_ok, shape_ok, clock_ok}
use Rattle.image.specs.Whole.{whole_says, says-filled, zero-unfilled}
use Rattle.image.specs.Requires.{Sized}
use Rattle.acceptance.specs.Accept.{in_range, proper, version_below, name_below, image_check}
use Rattle.acceptance.specs.Requires.{head_check, nameless, slots_check}
use Rattle.acceptance.specs.Laws.{image-is, image-sized}

pub record Sound (l : List ℕ) (n w : ℕ) : Type 0 where
  pub all-proper : (s : ℕ) → s < n → proper (clock_of l) (header l s) ≡ true
  pub named : (s : ℕ) → s < n → nameless l n w s ≡ false
  pub versions : (s : ℕ) → s < n → version_below (clock_of l) (header l) s ≡ false
  pub names : (s : ℕ) → s < n → name_below l n w s ≡ false

pub sound : (l : List ℕ) (n w : ℕ) → slots_check l n w ≡ Ok tt → Sound l n w
unfolding slots_check
sound l n w e =
    let p = every (λ s. proper (clock_of l) (header l s)) n in
    let k = any_of (nameless l n w) n in
    let v = any_of (version_below (clock_of l) (header l)) n in
    let y = any_of (name_below l n w) n in
    let one = not-refused (not p || k) BadSlot (refuse (v || y) Duplicate (Ok tt)) e in
    let two = not-refused (v || y) Duplicate (Ok tt) one.1 in
    record {
      all-proper = every-at (λ s. proper (clock_of l) (header l s)) n (not-false p (or_left (not p) k one.0));
      named = some-none (nameless l n w) n (or_right (not p) k one.0);
      versions = some-none (version_below (clock_of l) (header l)) n (or_left v y two.0);
      names = some-none (name_below l n w) n (or_right v y two.0);
    }

-- a proper header counts as free, or is filled within its bounds
pub record FilledOk (c : ℕ) (h : Header) : Type 0 where
  pub filled : is_filled h ≡ true
  pub kind-hi : h.kind ≤ 3
  pub epoch-lo : 2 ≤ h.epoch
  pub epoch-hi : h.epoch ≤ c
  pub uid-hi : h.uid ≤ most_number
  pub board-hi : h.board ≤ queue_board

filled_ok : (c : ℕ) (h : Header) → has_zero h ≡ false → in_range c h ≡ true → FilledOk c h
unfolding in_range
filled_ok c h z e =
    let k = leb h.kind 3 in
    let a = leb 2 h.epoch in
    let b = leb h.epoch c in
    let u = leb h.uid most_number in
    let e1 = and_right k _ e in
    let e2 = and_right a _ e1 in
    let e3 = and_right b _ e2 in
    let top = leb-true h.kind 3 (and_left k _ e) in
    record {
      filled = says-filled h (record { whole = whole_says h z; kind-hi = top });
      kind-hi = top;
      epoch-lo = leb-true 2 h.epoch (and_left a _ e1);
      epoch-hi = leb-true h.epoch c (and_left b _ e2);
      uid-hi = leb-true h.uid most_number (and_left u _ e3);
      board-hi = leb-true h.board queue_board (and_right u _ e3);
    }

pub proper-cases : (c : ℕ) (h : Header) → proper c h ≡ true → (has_zero h ≡ true) ⊎ FilledOk c h
unfolding proper
proper-cases c h e =
    ⊎_elim
    (λ (b : has_zero h ≡ true). inl b)
    (λ (b : has_zero h ≡ false). let f : in_range c h ≡ true = rw b at e in inr (filled_ok c h b f))
    (cases (has_zero h))

-- .. and one that is filled is within them
pub filled-proper : (c : ℕ) (h : Header) → is_filled h ≡ true → proper c h ≡ true → FilledOk c h
filled-proper c h f e = ⊎_elim (λ (z : has_zero h ≡ true). never (is_filled h) f (zero-unfilled h z)) (λ (o : FilledOk c h). o) (proper-cases c h e)

-- ---- an accepted image, as facts
pub record Accepts (l : List ℕ) : Type 0 where
  pub sized : Sized l (slots_of l) (width_of l)
  pub clock-lo : 2 ≤ clock_of l
  pub clock-hi : clock_of l ≤ most_number
  pub sound : Sound l (slots_of l) (width_of l)

-- from the check to the facts ..
pub accepted-says : (l : List ℕ) → image_check l ≡ Ok tt → Accepts l
unfolding head_check clock_ok
accepted-says l e =
    let both = both-accepted (head_check l) (slots_check l (slots_of l) (width_of l)) (sym (image-is l) ∙ e) in
    let shape = not-refused (not (shape_ok l)) BadSizes (refuse (not (clock_ok (clock_of l))) BadClock (Ok tt)) both.0 in
    let clock = not-false (clock_ok (clock_of l)) (not-refused (not (clock_ok (clock_of l))) BadClock (Ok tt) shape.1).0 in
    record {
      sized = image-sized l e;
      clock-lo = leb-true 2 (clock_of l) (and_left (nat_le 2 (clock_of l)) _ clock);
      clock-hi = leb-true (clock_of l) most_number (and_right (nat_le 2 (clock_of l)) _ clock);
      sound = sound l (slots_of l) (width_of l) both.1;
    }

-- the sizes are in range and the length fits
says-shape : (l : List ℕ) → Sized l (slots_of l) (width_of l) → shape_ok l ≡ true
unfolding shape_ok sizes_ok
says-shape l z =
    let s = z.sizes in
    and_both
    (and_both (le-leb 2 _ s.slots-lo) (and_both (le-leb _ most_slots s.slots-hi) (and_both (le-leb 2 _ s.width-lo) (le-leb _ 9 s.width-hi))))
    (eq-eqb _ _ z.long)

-- .. and back
pub says-accepted : (l : List ℕ) → Accepts l → image_check l ≡ Ok tt
unfolding image_check clock_ok nameless
says-accepted l a =
    let n = slots_of l in
    let w = width_of l in
    let s = a.sound in
    rw (
      says-shape l a.sized,
      le-leb 2 (clock_of l) a.clock-lo,
      le-leb (clock_of l) most_number a.clock-hi,
      at_every (λ t. proper (clock_of l) (header l t)) n s.all-proper,
      none-some (nameless l n w) n s.named,
      none-some (version_below (clock_of l) (header l)) n s.versions,
      none-some (name_below l n w) n s.names,
    )
