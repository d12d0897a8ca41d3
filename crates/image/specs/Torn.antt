-- An image that a cut within a store leaves, and what is read in it.
use Rattle.std.specs.Prelude.{ℕ, zero, suc, ◌+◌, ◌≤◌, ◌<◌, ◌≡◌, refl, true, false, ◌≢◌, ◌⊎◌, List, length, set, take, drop}
use Rattle.std.proofs.Common.{sym, ap, ◌∙◌, inl, inr, ⊎_elim, length-set, get_or-set_same, get_or-set_other, arith}
use Rattle.std.proofs.Math.ListN.{get_or, get_or-eq_default}
use Rattle.std.proofs.Math.Seq.{ext_get_or}
use Rattle.std.proofs.Math.Decide.{ℕ_discrete, dec_lt}
use Rattle.search.specs.Bools.{cases}
use Rattle.image.specs.declared.header.Header.{Header}
use Rattle.image.specs.Layout.{header_words, header_at, contents_at, has_zero, header, contents, free_header}
use Rattle.image.specs.Line.{header_line, clock_line, stored, store_line}
use Rattle.image.specs.Whole.{Whole, whole_says}
use Rattle.image.specs.Requires.{HeaderFits, held_header, held_contents}
use Rattle.image.specs.Laws.{length-store, word-apart, part-word, part-long, part-top, header-same, header-word, contents-word, word-past-clock}

-- 02, No. 4: "every image whose words are each as before or as after the one line store underway"
pub record Torn (before after l : List ℕ) : Type 0 where
  pub long : length l ≡ length before
  pub words : (i : ℕ) → (get_or l i 0 ≡ get_or before i 0) ⊎ (get_or l i 0 ≡ get_or after i 0)

-- each word is l's or wk's
abbrev pub From : List ℕ → List ℕ → List ℕ → Type 0
From wk l l' = (i : ℕ) → (get_or l' i 0 ≡ get_or l i 0) ⊎ (get_or l' i 0 ≡ get_or wk i 0)

-- each word of x is g's or h's
pub record Mixed (x g h : Header) : Type 0 where
  pub kind : (x.kind ≡ g.kind) ⊎ (x.kind ≡ h.kind)
  pub epoch : (x.epoch ≡ g.epoch) ⊎ (x.epoch ≡ h.epoch)
  pub uid : (x.uid ≡ g.uid) ⊎ (x.uid ≡ h.uid)
  pub board : (x.board ≡ g.board) ⊎ (x.board ≡ h.board)

module _ {a b l : List ℕ} (t : Torn a b l) where
  -- where both have a word, so has l
  pub torn-word : (i : ℕ) → get_or b i 0 ≡ get_or a i 0 → get_or l i 0 ≡ get_or a i 0
  torn-word i e = ⊎_elim (λ p. p) (λ p. p ∙ e) (t.words i)

  -- .. and a part
  pub torn-part : (i m : ℕ) → take m (drop i b) ≡ take m (drop i a) → take m (drop i l) ≡ take m (drop i a)
  torn-part i m e =
      ext_get_or 0 (take m (drop i l)) (take m (drop i a)) (part-long a l i m t.long)
      (λ j h.
      let u : j < m = omega (arith, part-top l i m) in
      let same = sym (part-word b i m j u) ∙ ap (λ x. get_or x j 0) e ∙ part-word a i m j u in
      part-word l i m j u ∙ torn-word (i + j) same ∙ sym (part-word a i m j u))

  pub torn-header : (s : ℕ) → Mixed (header l s) (header a s) (header b s)
  unfolding header
  torn-header s =
      record { kind = t.words (header_at s); epoch = t.words (header_at s + 1); uid = t.words (header_at s + 2); board = t.words (header_at s + 3) }

  -- of a later store
  pub torn-wider : {c : List ℕ} → From c a b → Torn a c l
  torn-wider w = record { long = t.long; words = λ i. ⊎_elim (λ p. inl p) (λ p. ⊎_elim (λ q. inl (p ∙ q)) (λ q. inr (p ∙ q)) (w i)) (t.words i) }

-- ---- words that are copied from another image
set-either : (l : List ℕ) (i j v : ℕ) → (get_or (set l i v) j 0 ≡ get_or l j 0) ⊎ ((j ≡ i) × (get_or (set l i v) j 0 ≡ v))
set-either l i j v = elim (ℕ_discrete j i) [
  | no d ↦ inl (get_or-set_other l i j v 0 d)
  | yes e ↦ elim (dec_lt i (length l)) [
    | yes u ↦ inr (e, rw e (get_or-set_same l i v 0 u))
    | no u ↦
        let set_out : length (set l i v) ≤ j = omega (arith, length-set l i v) in
        inl (get_or-eq_default (set l i v) 0 set_out ∙ sym (get_or-eq_default l 0 (omega arith)))
  ]
]

stored-from : (wk dst : List ℕ) (b : ℕ) (src : List ℕ) (k : ℕ) → ((j : ℕ) → j < k → get_or src j 0 ≡ get_or wk (b + j) 0) → From wk dst (stored dst b src k)
unfolding stored
stored-from wk dst b src zero h i = inl refl
stored-from wk dst b src (suc k) h i =
    ⊎_elim
    (λ e. ⊎_elim (λ p. inl (e ∙ p)) (λ p. inr (e ∙ p)) (stored-from wk dst b src k (λ j u. h j (omega arith)) i))
    (λ (q : (i ≡ b + k) × (get_or (set (stored dst b src k) (b + k) (get_or src k 0)) i 0 ≡ get_or src k 0)).
    inr (q.1 ∙ h k (omega arith) ∙ ap (λ x. get_or wk x 0) (sym q.0)))
    (set-either (stored dst b src k) (b + k) i (get_or src k 0))

pub word-from : (wk l : List ℕ) (i : ℕ) → From wk l (set l i (get_or wk i 0))
word-from wk l i j =
    ⊎_elim (λ e. inl e) (λ (q : (j ≡ i) × (get_or (set l i (get_or wk i 0)) j 0 ≡ get_or wk i 0)). inr (q.1 ∙ ap (λ x. get_or wk x 0) (sym q.0)))
    (set-either l i j (get_or wk i 0))

pub header-from : (wk l : List ℕ) (s : ℕ) → From wk l (store_line l (held_header wk s))
unfolding store_line
header-from wk l s = stored-from wk l (header_at s) (held_header wk s).words header_words (header-word wk s)

pub contents-from : (wk l : List ℕ) (n w s : ℕ) → From wk l (store_line l (held_contents wk n w s))
unfolding store_line contents
contents-from wk l n w s =
    stored-from wk l (contents_at n w s) (contents wk n w s) (length (contents wk n w s))
    (λ j h. contents-word wk n w s j (omega (arith, part-top wk (contents_at n w s) w)))

-- nothing was stored
pub torn-same : {a l : List ℕ} → Torn a a l → l ≡ a
torn-same {a} {l} t = ext_get_or 0 l a t.long (λ i h. torn-word t i refl)

-- the clock is one word: it is the old image or the new one
pub torn-clock : {a l : List ℕ} (c : ℕ) → Torn a (store_line a (clock_line c)) l → (l ≡ a) ⊎ (l ≡ store_line a (clock_line c))
torn-clock {a} {l} c t = ⊎_elim (λ p. inl (old p)) (λ p. inr (new p)) (t.words 2)
  where
    past : (i : ℕ) → i ≢ 2 → get_or l i 0 ≡ get_or a i 0
    past i d = torn-word t i (word-past-clock a c i d)

    old : get_or l 2 0 ≡ get_or a 2 0 → l ≡ a
    old p = ext_get_or 0 l a t.long (λ i h. elim (ℕ_discrete i 2) [ yes e ↦ rw e p | no d ↦ past i d ])

    new : get_or l 2 0 ≡ get_or (store_line a (clock_line c)) 2 0 → l ≡ store_line a (clock_line c)
    new p =
        ext_get_or 0 l (store_line a (clock_line c)) (t.long ∙ sym (length-store a (clock_line c)))
        (λ i h. elim (ℕ_discrete i 2) [ yes e ↦ rw e p | no d ↦ past i d ∙ sym (word-past-clock a c i d) ])

-- ---- a header's line
-- what holds apart from the line, and of each of its four words, holds everywhere
four : (P : ℕ → Type 0) (b i : ℕ) → ((i < b) ⊎ (b + 4 ≤ i) → P i) → P b → P (b + 1) → P (b + 2) → P (b + 3) → P i
four P b i out p q r s =
    elim (dec_lt i b) [
      | yes u ↦ out (inl u)
      | no u ↦ elim (ℕ_discrete i b) [
        | yes e ↦ rw e p
        | no d ↦ elim (ℕ_discrete i (b + 1)) [
          | yes e ↦ rw e q
          | no f ↦ elim (ℕ_discrete i (b + 2)) [
            | yes e ↦ rw e r
            | no g ↦ elim (ℕ_discrete i (b + 3)) [
              | yes e ↦ rw e s
              | no k ↦ out (inr (omega arith))
            ]
          ]
        ]
      ]
    ]

-- what has a's words but for a header is a store of that header
header-alone : {a l : List ℕ} {n s : ℕ} → HeaderFits a n s → length l ≡ length a
    → ((i : ℕ) → (i < header_at s) ⊎ (header_at s + 4 ≤ i) → get_or l i 0 ≡ get_or a i 0) → l ≡ store_line a (header_line s (header l s))
unfolding header
header-alone {a} {l} {n} {s} z long beside =
    let x = header l s in
    let l' = store_line a (header_line s x) in
    let e = header-same x z in
    ext_get_or 0 l l' (long ∙ sym (length-store a (header_line s x)))
    (λ i u.
    four (λ j. get_or l j 0 ≡ get_or l' j 0) (header_at s) i
    (λ o. beside i o ∙ sym (word-apart a (header_line s x) i (⊎_elim (λ q. inl (omega arith)) (λ q. inr q) o)))
    (sym (ap (λ (g : Header). g.kind) e)) (sym (ap (λ (g : Header). g.epoch) e)) (sym (ap (λ (g : Header). g.uid) e)) (sym (ap (λ (g : Header). g.board) e)))

module _ {a l : List ℕ} {n s : ℕ} (z : HeaderFits a n s) (h : Header) (t : Torn a (store_line a (header_line s h)) l) where
  beside : (i : ℕ) → (i < header_at s) ⊎ (header_at s + 4 ≤ i) → get_or l i 0 ≡ get_or a i 0
  beside i o = torn-word t i (word-apart a (header_line s h) i (⊎_elim (λ u. inl (omega arith)) (λ u. inr u) o))

  fits : {l' : List ℕ} → length l' ≡ length a → HeaderFits l' n s
  fits e = record { within = z.within; slots-hi = z.slots-hi; long = omega (arith, z.long) }

  -- it is a store of some header, over the one image and over the other
  torn-is : l ≡ store_line a (header_line s (header l s))
  torn-is = header-alone z t.long beside

  torn-again : l ≡ store_line (store_line a (header_line s h)) (header_line s (header l s))
  torn-again =
      header-alone (fits (length-store a (header_line s h))) (t.long ∙ sym (length-store a (header_line s h)))
      (λ i o. beside i o ∙ sym (word-apart a (header_line s h) i (⊎_elim (λ u. inl (omega arith)) (λ u. inr u) o)))

  torn-mixed : Mixed (header l s) (header a s) h
  torn-mixed = rw (header-same h z) at (torn-header t s)

  -- where all four are the old words, nothing was stored
  torn-old : header l s ≡ header a s → l ≡ a
  unfolding header
  torn-old e =
      ext_get_or 0 l a t.long
      (λ i u.
      four (λ j. get_or l j 0 ≡ get_or a j 0) (header_at s) i (beside i)
      (ap (λ (g : Header). g.kind) e) (ap (λ (g : Header). g.epoch) e) (ap (λ (g : Header). g.uid) e) (ap (λ (g : Header). g.board) e))

-- ---- a header's line of zeros: as before, or one of the words is 0
pub record Remains (a : List ℕ) (s : ℕ) (l : List ℕ) : Type 0 where
  pub is : l ≡ store_line a (header_line s (header l s))
  pub again : l ≡ store_line (store_line a (header_line s free_header)) (header_line s (header l s))
  pub zero : has_zero (header l s) ≡ true
  pub mixed : Mixed (header l s) (header a s) free_header

-- a word that is not 0 is the old one
stays : {x y : ℕ} → (x ≡ y) ⊎ (x ≡ 0) → 1 ≤ x → x ≡ y
stays (inl p) h = p
stays (inr p) h = absurd (omega arith)

pub torn-freed : {a l : List ℕ} {n s : ℕ} → HeaderFits a n s → Torn a (store_line a (header_line s free_header)) l → (l ≡ a) ⊎ Remains a s l
torn-freed {a} {l} {n} {s} z t =
    ⊎_elim
    (λ (e : has_zero (header l s) ≡ true). inr (record { is = torn-is z free_header t; again = torn-again z free_header t; zero = e; mixed = m }))
    (λ (e : has_zero (header l s) ≡ false). inl (torn-old z free_header t (same (whole_says (header l s) e))))
    (cases (has_zero (header l s)))
  where
    m : Mixed (header l s) (header a s) free_header
    m = torn-mixed z free_header t

    same : Whole (header l s) → header l s ≡ header a s
    same w =
        let k = stays m.kind w.kind-lo in
        let e = stays m.epoch w.epoch-lo in
        let u = stays m.uid w.uid-lo in
        let b = stays m.board w.board-lo in
        λ i. record { kind = k i; epoch = e i; uid = u i; board = b i }
