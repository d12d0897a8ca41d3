-- Get/set laws: what is read after a line is stored, in it and apart from it. Callers use these, not the texts.
use Rattle.std.specs.Prelude.{ℕ, zero, suc, ◌+◌, ◌*◌, ◌-◌, ◌≤◌, ◌<◌, ◌≡◌, refl, ◌≢◌, ◌⊎◌, List, [], ◌∷◌, ◌++◌, Bool, true, ◌&&◌, length, get_or, set, take, drop, leb, eqb}
use Rattle.std.proofs.Common.{sym, ap, ◌∙◌, inl, inr, ⊎_elim, append_assoc, length-set, length-take, length-drop, get_or-set_same, get_or-set_other, ext_get_or, get_or-take, get_or-drop, take_all, drop-drop, leb-true, eqb-true, arith, mul-le-mul, eq-or-lt_of_le}
use Rattle.std.proofs.Math.Seq.{take-nil, paste, paste-zero, paste-suc}
use Rattle.std.proofs.Math.Decide.{dec_lt}
use Rattle.search.specs.Bools.{and_left, and_right}
use Rattle.image.specs.declared.header.Header.{Header}
use Rattle.image.specs.Layout.{most_slots, header_words, header_at, contents_at, image_words, header, contents, key_at, value_at, slots_of, width_of, clock_of, sizes_ok, shape_ok}
use Rattle.image.specs.Line.{Line, header_line, contents_line, clock_line, stored, store_line}
use Rattle.image.specs.Name.{name_of, name_at, name-is, name-kept}
use Rattle.image.specs.Requires.{kind_at, epoch_at, uid_at, board_at, InRange, Sized, Slot, HeaderFits, held_header, room_of}

-- ---- an image of the right shape has its sizes
pub area-top : {n w : ℕ} → InRange n w → w * n ≤ 9 * most_slots
area-top z = mul-le-mul z.width-hi z.slots-hi

pub sizes-true : (n w : ℕ) {r : Bool} → r ≡ sizes_ok n w → r ≡ true → InRange n w
unfolding sizes_ok
sizes-true n w {r} e t =
    let h : leb 2 n && (leb n most_slots && (leb 2 w && leb w 9)) ≡ true = sym e ∙ t in
    let h1 : leb n most_slots && (leb 2 w && leb w 9) ≡ true = and_right (leb 2 n) (leb n most_slots && (leb 2 w && leb w 9)) h in
    let h2 : leb 2 w && leb w 9 ≡ true = and_right (leb n most_slots) (leb 2 w && leb w 9) h1 in
    record {
      slots-lo = leb-true 2 n (and_left (leb 2 n) (leb n most_slots && (leb 2 w && leb w 9)) h);
      slots-hi = leb-true n most_slots (and_left (leb n most_slots) (leb 2 w && leb w 9) h1);
      width-lo = leb-true 2 w (and_left (leb 2 w) (leb w 9) h2);
      width-hi = leb-true w 9 (and_right (leb 2 w) (leb w 9) h2);
    }

pub shaped : (l : List ℕ) → shape_ok l ≡ true → Sized l (slots_of l) (width_of l)
unfolding shape_ok
shaped l h =
    let n = slots_of l in
    let w = width_of l in
    record {
      sizes = sizes-true n w refl (and_left (sizes_ok n w) (eqb (length l) (image_words n w)) h);
      long = eqb-true (length l) (image_words n w) (and_right (sizes_ok n w) (eqb (length l) (image_words n w)) h);
    }

-- ---- a word's store, at numbers
get-same : (l : List ℕ) (i v : ℕ) → i < length l → get_or (set l i v) i 0 ≡ v
get-same l i v h = get_or-set_same l i v 0 h

get_other : (l : List ℕ) (i j v : ℕ) → j ≢ i → get_or (set l i v) j 0 ≡ get_or l j 0
get_other l i j v h = get_or-set_other l i j v 0 h

-- ---- stored words
pub length-stored : (dst : List ℕ) (b : ℕ) (src : List ℕ) (k : ℕ) → length (stored dst b src k) ≡ length dst
unfolding stored
length-stored dst b src zero = refl
length-stored dst b src (suc k) = simp (length-set, length-stored dst b src k)

pub stored-outside : (dst : List ℕ) (b : ℕ) (src : List ℕ) (k i : ℕ) → (i < b) ⊎ (b + k ≤ i) → get_or (stored dst b src k) i 0 ≡ get_or dst i 0
unfolding stored
stored-outside dst b src zero i o = refl
stored-outside dst b src (suc k) i o =
    let d : i ≢ b + k = ⊎_elim (λ (h : i < b). λ e. omega arith) (λ (h : b + suc k ≤ i). λ e. omega arith) o in
    rw (get_other (stored dst b src k) (b + k) i (get_or src k 0) d)
    (stored-outside dst b src k i (⊎_elim (λ h. inl h) (λ h. inr (omega arith)) o))

pub stored-inside : (dst : List ℕ) (b : ℕ) (src : List ℕ) (k j : ℕ) → j < k → b + k ≤ length dst → get_or (stored dst b src k) (b + j) 0 ≡ get_or src j 0
unfolding stored
stored-inside dst b src zero j h f = absurd (omega arith)
stored-inside dst b src (suc k) j h f =
    ⊎_elim
    (λ (e : j ≡ k). rw e (get-same (stored dst b src k) (b + k) (get_or src k 0) (simp length-stored (omega arith))))
    (λ (v : j < k). rw (get_other (stored dst b src k) (b + k) (b + j) (get_or src k 0) (omega arith)) (stored-inside dst b src k j v (omega arith)))
    (eq-or-lt_of_le (omega arith))

-- the same at the front, where the place is j itself
front-inside : (dst src : List ℕ) (k j : ℕ) → j < k → k ≤ length dst → get_or (stored dst 0 src k) j 0 ≡ get_or src j 0
front-inside dst src k j h f = let z : 0 + j ≡ j = omega arith in rw z at (stored-inside dst 0 src k j h (omega arith))

-- a whole list, stored over one of its length
pub stored-whole : (dst src : List ℕ) → length src ≡ length dst → stored dst 0 src (length dst) ≡ src
stored-whole dst src e =
    ext_get_or 0 (stored dst 0 src (length dst)) src (length-stored dst 0 src (length dst) ∙ sym e)
    (λ i h. front-inside dst src (length dst) i (rw (length-stored dst 0 src (length dst)) at h) (omega arith))

-- the front of what was stored at the front
pub stored-front : (dst src : List ℕ) (k : ℕ) → length src ≡ k → k ≤ length dst → take k (stored dst 0 src k) ≡ src
stored-front dst src k e h =
    let long : length (take k (stored dst 0 src k)) ≡ k = simp (length-take, length-stored) (omega arith) in
    ext_get_or 0 (take k (stored dst 0 src k)) src (long ∙ sym e)
    (λ i l. let u : i < k = rw long at l in get_or-take k (stored dst 0 src k) i 0 u ∙ front-inside dst src k i u h)

-- a part that was lent and came back with other words
pub paste-stored : (dst : List ℕ) (b : ℕ) (src : List ℕ) (k : ℕ) → b + k ≤ length dst → k ≤ length src → paste dst b src k ≡ stored dst b src k
unfolding stored
paste-stored dst b src zero f h = sym (paste-zero dst b src)
paste-stored dst b src (suc k) f h =
    sym (paste-suc dst b src k 0 (omega arith) h) ∙ ap (λ (x : List ℕ). set x (b + k) (get_or src k 0)) (paste-stored dst b src k (omega arith) (omega arith))

pub part-stored : (dst : List ℕ) (b : ℕ) (src : List ℕ) (k : ℕ) → b + k ≤ length dst → k ≤ length src
    → take b dst ++ (take k src ++ drop k (drop b dst)) ≡ stored dst b src k
part-stored dst b src k f h =
    sym (append_assoc (take b dst) (take k src) (drop k (drop b dst)))
    ∙ ap (λ (x : List ℕ). take b dst ++ take k src ++ x) (drop-drop k b dst)
    ∙ paste-stored dst b src k f h

-- ---- a line: its own words, and those apart from it
-- the m words from b on are none of the line's
abbrev pub Apart : Line → ℕ → ℕ → Type 0
Apart k b m = (b + m ≤ k.at) ⊎ (k.at + length k.words ≤ b)

pub length-store : (l : List ℕ) (k : Line) → length (store_line l k) ≡ length l
unfolding store_line
length-store l k = length-stored l k.at k.words (length k.words)

word_in : (l : List ℕ) (k : Line) (j : ℕ) → j < length k.words → k.at + length k.words ≤ length l → get_or (store_line l k) (k.at + j) 0 ≡ get_or k.words j 0
unfolding store_line
word_in l k j h f = stored-inside l k.at k.words (length k.words) j h f

pub word-apart : (l : List ℕ) (k : Line) (j : ℕ) → Apart k j 1 → get_or (store_line l k) j 0 ≡ get_or l j 0
unfolding store_line
word-apart l k j o = stored-outside l k.at k.words (length k.words) j (⊎_elim (λ h. inl (omega arith)) (λ h. inr h) o)

-- the part of m words from b on
pub part-word : (l : List ℕ) (b m j : ℕ) → j < m → get_or (take m (drop b l)) j 0 ≡ get_or l (b + j) 0
part-word l b m j h = get_or-take m (drop b l) j 0 h ∙ get_or-drop b l j 0

pub part-long : (l l' : List ℕ) (b m : ℕ) → length l' ≡ length l → length (take m (drop b l')) ≡ length (take m (drop b l))
part-long l l' b m e = simp (length-take, length-drop, e)

pub part-top : (l : List ℕ) (b m : ℕ) → length (take m (drop b l)) ≤ m
part-top l b m = simp length-take (omega arith)

pub part_apart : (l : List ℕ) (k : Line) (b m : ℕ) → Apart k b m → take m (drop b (store_line l k)) ≡ take m (drop b l)
part_apart l k b m o =
    let long = part-long l (store_line l k) b m (length-store l k) in
    ext_get_or 0 (take m (drop b (store_line l k))) (take m (drop b l)) long
    (λ j h.
    let u : j < m = omega (arith, part-top (store_line l k) b m) in
    part-word (store_line l k) b m j u
    ∙ word-apart l k (b + j) (⊎_elim (λ q. inl (omega arith)) (λ q. inr (omega arith)) o)
    ∙ sym (part-word l b m j u))

pub part_same : (l : List ℕ) (k : Line) (m : ℕ) → length k.words ≡ m → k.at + m ≤ length l → take m (drop k.at (store_line l k)) ≡ k.words
part_same l k m e f =
    let long : length (take m (drop k.at (store_line l k))) ≡ m = simp (length-take, length-drop, length-store) (omega arith) in
    ext_get_or 0 (take m (drop k.at (store_line l k))) k.words (long ∙ sym e)
    (λ j h.
    let u : j < m = rw long at h in
    part-word (store_line l k) k.at m j u ∙ word_in l k j (omega arith) (omega arith))

-- a part that was lent and came back with a line's words
pub part-line : (l : List ℕ) (k : Line) (m : ℕ) → length k.words ≡ m → k.at + m ≤ length l
    → take k.at l ++ (k.words ++ drop m (drop k.at l)) ≡ store_line l k
unfolding store_line
part-line l k m e f =
    rw e (rw (take_all m k.words (omega arith)) at (part-stored l k.at k.words m f (omega arith)))

-- ---- headers
pub header-apart : (l : List ℕ) (k : Line) (s : ℕ) → Apart k (header_at s) header_words → header (store_line l k) s ≡ header l s
unfolding header
header-apart l k s o =
    λ i. record {
      kind = word-apart l k (header_at s) (⊎_elim (λ h. inl (omega arith)) (λ h. inr (omega arith)) o) i;
      epoch = word-apart l k (header_at s + 1) (⊎_elim (λ h. inl (omega arith)) (λ h. inr (omega arith)) o) i;
      uid = word-apart l k (header_at s + 2) (⊎_elim (λ h. inl (omega arith)) (λ h. inr (omega arith)) o) i;
      board = word-apart l k (header_at s + 3) (⊎_elim (λ h. inl (omega arith)) (λ h. inr (omega arith)) o) i;
    }

pub header-same : {l : List ℕ} {n s : ℕ} (h : Header) → HeaderFits l n s → header (store_line l (header_line s h)) s ≡ h
unfolding header
header-same {l} {n} {s} h z =
    let first : header_at s + 0 ≡ header_at s = omega arith in
    let k : kind_at (store_line l (header_line s h)) s ≡ h.kind = rw first at (word_in l (header_line s h) 0 (omega arith) (omega (arith, z.long))) in
    let e : epoch_at (store_line l (header_line s h)) s ≡ h.epoch = word_in l (header_line s h) 1 (omega arith) (omega (arith, z.long)) in
    let u : uid_at (store_line l (header_line s h)) s ≡ h.uid = word_in l (header_line s h) 2 (omega arith) (omega (arith, z.long)) in
    let b : board_at (store_line l (header_line s h)) s ≡ h.board = word_in l (header_line s h) 3 (omega arith) (omega (arith, z.long)) in
    λ i. record { kind = k i; epoch = e i; uid = u i; board = b i }

pub header-other : (l : List ℕ) (s t : ℕ) (h : Header) → t ≢ s → header (store_line l (header_line s h)) t ≡ header l t
header-other l s t h d =
    header-apart l (header_line s h) t (elim (dec_lt t s) [ yes u ↦ inl (omega arith) | no u ↦ inr (omega arith) ])

pub header-word : (l : List ℕ) (s j : ℕ) → j < header_words → get_or (held_header l s).words j 0 ≡ get_or l (header_at s + j) 0
unfolding header
header-word l s zero h = let e : header_at s + 0 ≡ header_at s = omega arith in rw e
header-word l s (suc zero) h = refl
header-word l s (suc (suc zero)) h = refl
header-word l s (suc (suc (suc zero))) h = refl
header-word l s (suc (suc (suc (suc j)))) h = absurd (omega arith)

-- the part of an image that is a header
pub header-part : (l : List ℕ) (s : ℕ) → header_at s + header_words ≤ length l → take header_words (drop (header_at s) l) ≡ (held_header l s).words
header-part l s f =
    let long : length (take header_words (drop (header_at s) l)) ≡ header_words = simp (length-take, length-drop) (omega arith) in
    ext_get_or 0 (take header_words (drop (header_at s) l)) (held_header l s).words long
    (λ j h. let u : j < header_words = rw long at h in part-word l (header_at s) header_words j u ∙ sym (header-word l s j u))

-- .. such a line leaves every slot's contents, the clock and the sizes
module _ (l : List ℕ) (n w s t : ℕ) (h : Header) (within : s < n) where
  pub contents-past-header : contents (store_line l (header_line s h)) n w t ≡ contents l n w t
  unfolding contents
  contents-past-header = part_apart l (header_line s h) (contents_at n w t) w (inr (omega arith))

  key-past-header : key_at (store_line l (header_line s h)) n w t ≡ key_at l n w t
  unfolding key_at
  key-past-header = word-apart l (header_line s h) (contents_at n w t) (inr (omega arith))

  pub name-past-header : t ≢ s → name_at (store_line l (header_line s h)) n w t ≡ name_at l n w t
  name-past-header d = name-kept l (store_line l (header_line s h)) n w t (ap (λ (x : Header). x.board) (header-other l s t h d)) key-past-header

  pub value-past-header : value_at (store_line l (header_line s h)) n w t ≡ value_at l n w t
  unfolding value_at
  value-past-header = part_apart l (header_line s h) (contents_at n w t + 1) (w - 1) (inr (omega arith))

pub front-past-header : (l : List ℕ) (s j : ℕ) (h : Header) → j < 3 → get_or (store_line l (header_line s h)) j 0 ≡ get_or l j 0
front-past-header l s j h u = word-apart l (header_line s h) j (inl (omega arith))

-- ---- contents
pub length-contents : {l : List ℕ} {n w s : ℕ} → Slot l n w s → length (contents l n w s) ≡ w
unfolding contents
length-contents {l} {n} {w} {s} z = simp (length-take, length-drop) (omega arith)

-- the part of an image that is a slot's contents
pub part-is : (l : List ℕ) (n w s : ℕ) {b : ℕ} → b ≡ contents_at n w s → take (b + w - b) (drop b l) ≡ contents l n w s
unfolding contents
part-is l n w s {b} at = let e : b + w - b ≡ w = omega arith in rw (e, at)

pub contents-word : (l : List ℕ) (n w s j : ℕ) → j < w → get_or (contents l n w s) j 0 ≡ get_or l (contents_at n w s + j) 0
unfolding contents
contents-word l n w s j h = part-word l (contents_at n w s) w j h

pub contents-same : {l : List ℕ} {n w s : ℕ} (words : List ℕ) → length words ≡ w → Slot l n w s → contents (store_line l (contents_line n w s words)) n w s ≡ words
unfolding contents
contents-same {l} {n} {w} {s} words e z = part_same l (contents_line n w s words) w e (omega arith)

pub contents-other : (l : List ℕ) (n w s t : ℕ) (words : List ℕ) → length words ≡ w → t ≢ s → contents (store_line l (contents_line n w s words)) n w t ≡ contents l n w t
unfolding contents
contents-other l n w s t words e d =
    part_apart l (contents_line n w s words) (contents_at n w t) w
    (elim (dec_lt t s) [
      | yes u ↦ inl (omega (arith, room_of w t s u))
      | no u ↦ inr (omega (arith, e, room_of w s t (omega arith)))
    ])

-- .. such a line leaves every header, the clock and the sizes
pub front-past-contents : (l : List ℕ) (n w s j : ℕ) (words : List ℕ) → j < 3 → get_or (store_line l (contents_line n w s words)) j 0 ≡ get_or l j 0
front-past-contents l n w s j words u = word-apart l (contents_line n w s words) j (inl (omega arith))

pub header-past-contents : (l : List ℕ) (n w s t : ℕ) (words : List ℕ) → t < n → header (store_line l (contents_line n w s words)) t ≡ header l t
header-past-contents l n w s t words h = header-apart l (contents_line n w s words) t (inl (omega arith))

-- ---- the clock
pub clock-same : (l : List ℕ) (c : ℕ) → 3 ≤ length l → clock_of (store_line l (clock_line c)) ≡ c
clock-same l c h = word_in l (clock_line c) 0 (omega arith) (omega arith)

pub word-past-clock : (l : List ℕ) (c j : ℕ) → j ≢ 2 → get_or (store_line l (clock_line c)) j 0 ≡ get_or l j 0
word-past-clock l c j d = word-apart l (clock_line c) j (elim (dec_lt j 2) [ yes u ↦ inl (omega arith) | no u ↦ inr (omega arith) ])

pub header-past-clock : (l : List ℕ) (c t : ℕ) → header (store_line l (clock_line c)) t ≡ header l t
header-past-clock l c t = header-apart l (clock_line c) t (inr (omega arith))

pub contents-past-clock : (l : List ℕ) (n w t c : ℕ) → contents (store_line l (clock_line c)) n w t ≡ contents l n w t
unfolding contents
contents-past-clock l n w t c = part_apart l (clock_line c) (contents_at n w t) w (inr (omega arith))

-- ---- key and value are parts of the contents
pub key-contents : (l : List ℕ) (n w s : ℕ) → 1 ≤ w → key_at l n w s ≡ get_or (contents l n w s) 0 0
unfolding key_at
key-contents l n w s h =
    let e : contents_at n w s + 0 ≡ contents_at n w s = omega arith in
    sym (contents-word l n w s 0 h ∙ ap (λ i. get_or l i 0) e)

drop-take : (v : ℕ) (l : List ℕ) → drop 1 (take (suc v) l) ≡ take v (drop 1 l)
drop-take v [] = sym (take-nil v)
drop-take v (x ∷ l) = refl

pub value-contents : (l : List ℕ) (n w s : ℕ) → 1 ≤ w → value_at l n w s ≡ drop 1 (contents l n w s)
unfolding value_at contents
value-contents l n w s h =
    let e : w ≡ suc (w - 1) = omega arith in
    let d : drop 1 (take w (drop (contents_at n w s) l)) ≡ take (w - 1) (drop 1 (drop (contents_at n w s) l)) =
    ap (λ k. drop 1 (take k (drop (contents_at n w s) l))) e ∙ drop-take (w - 1) (drop (contents_at n w s) l) in
    sym (d ∙ ap (take (w - 1)) (drop-drop 1 (contents_at n w s) l))

-- the name of a slot, by its header and its contents
pub name-contents : (l : List ℕ) (n w s : ℕ) → 1 ≤ w → name_at l n w s ≡ name_of (header l s).board (get_or (contents l n w s) 0 0)
name-contents l n w s h = name-is l n w s ∙ ap (name_of (header l s).board) (key-contents l n w s h)
