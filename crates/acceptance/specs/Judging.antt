-- The first pass over the slots: what contracts say of a slot and of all, and the laws of the loop.
use Rattle.std.specs.Prelude.{◌≡◌, ℕ, ◌+◌, ◌*◌, ◌<◌, ◌≤◌, Bool, true, false, not, ◌&&◌, ◌||◌, ltb, ◌≢◌, List, length, ◌==◌, nat_eq, nat_le, nat_lt, slice_index_or, slice_set, Result, Ok, Err}
use Rattle.std.proofs.Math.Path.{refl, sym}
use Rattle.std.proofs.Common.{ap, ◌∙◌, length-set, get_or-set_same, get_or-set_other, eq-or-lt_of_le, arith}
use Rattle.std.proofs.Math.Logic.{⊎_elim}
use Rattle.std.proofs.Math.Bool.{and-true, and-false, or-true, or-false}
use borrow.Author.Tests.{le-leb, lt-leb, eq-eqb, eqb-true, le-ltb, not-true}
use Rattle.search.specs.Bools.{cases, never, refuted, same_test, and_left, and_right}
use Rattle.search.specs.Some.{any_of, none-some, some_same, any-more, every, every-at, at_every}
use Rattle.reply.specs.declared.Refusal.{Refusal}
use Rattle.reply.specs.declared.Refusal.TheVariants.{BadSlot}
use Rattle.image.specs.declared.header.Header.{Header}
use Rattle.image.specs.Layout.{has_zero, is_filled, is_payload, header, clock_of}
use Rattle.image.specs.Whole.{whole_says, zero-unfilled}
use Rattle.image.specs.Requires.{HeaderFits}
use Rattle.chains.specs.Chains.{number_of, label_of, pair_in, newer_in, older_in, Lent, Blank, Linked}
use Rattle.chains.specs.Requires.{At}
use Rattle.chains.specs.Carrying.{Carrying, carrying-start, carrying-skip, carrying-link, carried}
use Rattle.survival.specs.Survivors.{kept, beats, survivor}
use Rattle.survival.specs.Requires.{Headers, Marked, survives, wins, header-in}
use Rattle.survival.specs.Rivals.{Admits, Admitted}
use Rattle.acceptance.specs.Accept.{in_range, proper, version_below}
use Rattle.acceptance.specs.Requires.{all_proper, version_twice}
use Rattle.acceptance.specs.Ordered.{ordered}

-- ---- what a pass answers: was something found twice? A refusal is BadSlot, for a reason
pub record Answer (why : Type 0) (what : Bool → Type 0) (r : Result Bool Refusal) : Type 0 where
  pub refused : {e : Refusal} → r ≡ Err e → (e ≡ BadSlot) × why
  pub found : {b : Bool} → r ≡ Ok b → what b

ok-is : {a b : Bool} → ◌≡◌ {A = Result Bool Refusal} (Ok a) (Ok b) → a ≡ b
ok-is e = cc

module _ {why : Type 0} {what : Bool → Type 0} where
  pub refuses : why → Answer why what (Err BadSlot)
  refuses y = record { refused = λ e. (cc, y); found = λ e. let z : ◌≡◌ {A = ℕ} 0 1 = cc in absurd (omega arith) }

  pub finds : {b : Bool} → what b → Answer why what (Ok b)
  finds y = record { refused = λ e. let z : ◌≡◌ {A = ℕ} 0 1 = cc in absurd (omega arith); found = λ e. rw (← ok-is e) y }

-- ---- one slot
pub record Judges (m s : ℕ) (l : List ℕ) (flags : List Bool) : Type 0 where
  pub linked : Linked m s l
  pub within : s < m
  pub long : length flags ≡ 1024

pub record JudgesFilled (m s c : ℕ) (h : Header) (l : List ℕ) (flags : List Bool) : Type 0 where
  pub judges : Judges m s l flags
  pub whole : has_zero h ≡ false
  pub range : in_range c h ≡ true

-- it is on no chain, and its flag is not set
pub record Over (l : List ℕ) (s : ℕ) (flags flags' : List Bool) (l' : List ℕ) : Type 0 where
  pub skipped : l' ≡ slice_set l (4 * s + 2) 0
  pub cleared : flags' ≡ slice_set flags s false

pub record JudgedFine (m : ℕ) (l : List ℕ) (s c : ℕ) (h : Header) (flags flags' : List Bool) (l' : List ℕ) (twice : Bool) : Type 0 where
  pub proper-is : proper c h ≡ true
  pub over : kept c h ≡ false → Over l s flags flags' l' × (twice ≡ false)
  pub met : kept c h ≡ true → Admitted m l s h flags flags' l' twice
  pub whole : kept c h ≡ true → has_zero h ≡ false

abbrev pub JudgedSlot : ℕ → List ℕ → ℕ → ℕ → Header → List Bool → List Bool → List ℕ → Result Bool Refusal → Type 0
JudgedSlot m l s c h flags flags' l' = Answer (proper c h ≡ false) (JudgedFine m l s c h flags flags' l')

-- ---- all slots: room for the pass, and what it leaves
pub record Room (img : List ℕ) (n m : ℕ) (l : List ℕ) (flags : List Bool) : Type 0 where
  pub headers : Headers img n
  pub fits : n ≤ m
  pub blank : Blank m l
  pub long : length flags ≡ 1024

pub record JudgedAll (img : List ℕ) (n m : ℕ) (l : List ℕ) (flags : List Bool) (twice : Bool) : Type 0 where
  pub proper-is : all_proper img n ≡ true
  pub lent : Lent m l
  pub marked : Marked img n flags
  pub twice-is : twice ≡ version_twice img n

abbrev pub Judged : List ℕ → ℕ → ℕ → List ℕ → List Bool → Result Bool Refusal → Type 0
Judged img n m l flags = Answer (all_proper img n ≡ false) (JudgedAll img n m l flags)

-- ---- the ways out for one slot
module _ {m s : ℕ} {l : List ℕ} {flags : List Bool} (z : Judges m s l flags) where
  pub judges-at : At m s l
  judges-at = record { lent = z.linked.lent; within = z.within }

  pub judges-flag : s < length flags
  judges-flag = omega (arith, z.within, z.linked.lent.few, z.long)

  pub judges-filled : (c : ℕ) (h : Header) {b : Bool} → b ≡ ordered c h → b ≡ true → JudgesFilled m s c h l flags
  unfolding ordered
  judges-filled c h e t =
      let n = not (has_zero h) in
      record { judges = z; whole = not-true (has_zero h) (and_left n (in_range c h) (sym e ∙ t)); range = and_right n (in_range c h) (sym e ∙ t) }

pub over-is : {l l' : List ℕ} {s : ℕ} {flags flags' : List Bool} → l' ≡ slice_set l (4 * s + 2) 0 → flags' ≡ slice_set flags s false → Over l s flags flags' l'
over-is e f = record { skipped = e; cleared = f }

module _ {m s c : ℕ} {h : Header} {l : List ℕ} {flags : List Bool} (z : JudgesFilled m s c h l flags) where
  pub filled-judges : Judges m s l flags
  filled-judges = z.judges

  pub filled-admits : Admits m s l h flags
  filled-admits = record { linked = z.judges.linked; within = z.judges.within; whole = z.whole; long = z.judges.long }

  filled-proper : proper c h ≡ true
  unfolding proper
  filled-proper = rw z.range (or-true (has_zero h))

  filled-kept : kept c h ≡ nat_le (h.epoch + 2) c
  unfolding kept is_filled in_range
  filled-kept = rw (z.whole, and_left (nat_le h.kind 3) _ z.range)

  pub filled-admitted : {e d : ℕ} {flags' : List Bool} {l' : List ℕ} {b : Bool} → e ≡ h.epoch → d ≡ c → e + 2 ≤ d
      → Admitted m l s h flags flags' l' b → JudgedFine m l s c h flags flags' l' b
  filled-admitted {e} {d} p q a y =
      let k : kept c h ≡ true = filled-kept ∙ le-leb (h.epoch + 2) c (omega arith) in
      record { proper-is = filled-proper; over = λ g. never (kept c h) k g; met = λ g. y; whole = λ g. z.whole }

  pub filled-new : {e d : ℕ} {flags' : List Bool} {l' : List ℕ} → e ≡ h.epoch → d ≡ c → d < e + 2
      → Over l s flags flags' l' → JudgedFine m l s c h flags flags' l' false
  filled-new {e} {d} p q a y =
      let k : kept c h ≡ false = filled-kept ∙ lt-leb (h.epoch + 2) c (omega arith) in
      record { proper-is = filled-proper; over = λ g. (y, refl); met = λ g. never (kept c h) g k; whole = λ g. z.whole }

-- a header with a word 0 is not kept
free-kept : (c : ℕ) (h : Header) → has_zero h ≡ true → kept c h ≡ false
unfolding kept
free-kept c h t = rw (zero-unfilled h t)

module _ (c : ℕ) (h : Header) {b : Bool} (e : b ≡ has_zero h) where
  pub judged-free : {m s : ℕ} {l : List ℕ} {flags flags' : List Bool} {l' : List ℕ} → b ≡ true → Over l s flags flags' l' → JudgedFine m l s c h flags flags' l' false
  unfolding proper
  judged-free t y =
      let f = free-kept c h (sym e ∙ t) in
      record { proper-is = rw (← e, t); over = λ g. (y, refl); met = λ g. never (kept c h) g f; whole = λ g. never (kept c h) g f }

  pub judged-bad : {r : Bool} → b ≡ false → r ≡ ordered c h → r ≡ false → proper c h ≡ false
  unfolding proper ordered
  judged-bad f p q =
      let w : has_zero h ≡ false = sym e ∙ f in
      let d : not (has_zero h) && in_range c h ≡ false = sym p ∙ q in
      let g : in_range c h ≡ false = (rw w at d) in
      rw (w, g)

-- ---- tests about one slot more
-- a slot that survives among i slots does so among i + 1 unless the last one beats it
survives-more : (c : ℕ) (hs : ℕ → Header) (i t : ℕ) → survives c hs (i + 1) t ≡ (survives c hs i t && not (beats c (hs t) (hs i)))
unfolding survives wins
survives-more c hs i t =
    let p = is_payload (hs t) in
    let k = kept c (hs t) in
    let a = any_of (λ u. beats c (hs t) (hs u)) i in
    let b = beats c (hs t) (hs i) in
    rw (any-more (λ u. beats c (hs t) (hs u)) i) (three p k a b)
  where
    three : (p k a b : Bool) → (p && (k && not (a || b))) ≡ ((p && (k && not a)) && not b)
    three true true true true = refl
    three true true true false = refl
    three true true false true = refl
    three true true false false = refl
    three true false a b = refl
    three false k a b = refl

unbeaten : (c : ℕ) (h : Header) → beats c h h ≡ false
unfolding beats
unbeaten c h = rw (le-ltb h.epoch h.epoch (omega arith), and-false (h.uid == h.uid), and-false (kept c h))

eqb-sym : (a b : ℕ) → (a == b) ≡ (b == a)
eqb-sym a b = same_test (a == b) (b == a) (λ t. eq-eqb b a (sym (eqb-true a b t))) (λ t. eq-eqb a b (sym (eqb-true b a t)))

beats-older : (c : ℕ) (g h : Header) → kept c g ≡ true → kept c h ≡ true → (kept c g && (g.uid == h.uid && nat_lt g.epoch h.epoch)) ≡ beats c g h
unfolding beats
beats-older c g h y k = rw (y, k, eqb-sym g.uid h.uid)

survives-kept : (c : ℕ) (hs : ℕ → Header) (i t : ℕ) → kept c (hs t) ≡ false → survives c hs i t ≡ false
unfolding survives wins
survives-kept c hs i t f = rw f (and-false (is_payload (hs t)))

-- ---- the loop: the chains carry the kept headers' uids and epochs
abbrev kept_in : ℕ → List ℕ → ℕ → Bool
kept_in c img t = kept c (header img t)

abbrev uid_in : List ℕ → ℕ → ℕ
uid_in img t = (header img t).uid

abbrev epoch_in : List ℕ → ℕ → ℕ
epoch_in img t = (header img t).epoch

pub record Judging (img : List ℕ) (n c m : ℕ) (i : ℕ) (l : List ℕ) (flags : List Bool) (twice : Bool) : Type 0 where
  pub carries : Carrying (kept_in c img) (uid_in img) (epoch_in img) m i l
  pub low : i ≤ n
  pub fits : n ≤ m
  pub long : length flags ≡ 1024
  pub flagged : (t : ℕ) → t < i → slice_index_or flags t false ≡ survives c (header img) i t
  pub fine : (t : ℕ) → t < i → proper c (header img t) ≡ true
  pub twice-is : twice ≡ any_of (version_below c (header img)) i

pub judging-start : {img : List ℕ} {n m : ℕ} (c : ℕ) {l : List ℕ} {flags : List Bool} → Room img n m l flags → Judging img n c m 0 l flags false
judging-start {img} {n} {m} c z =
    record {
      carries = carrying-start (kept_in c img) (uid_in img) (epoch_in img) z.blank;
      low = omega arith;
      fits = z.fits;
      long = z.long;
      flagged = λ t h. absurd (omega arith);
      fine = λ t h. absurd (omega arith);
      twice-is = sym (none-some (version_below c (header img)) 0 (λ t h. absurd (omega arith)));
    }

module _ {img : List ℕ} {n c m i : ℕ} {l : List ℕ} {flags : List Bool} {twice : Bool} (z : Judging img n c m i l flags twice) where
  -- a test of the chains' words is one of the kept headers
  pair_is : (x y t : ℕ) → x ≢ 0 → t < i → (q : ℕ → ℕ → Bool)
      → (number_of l t == x && q (label_of l t) y) ≡ (kept c (header img t) && ((header img t).uid == x && q (header img t).epoch y))
  pair_is x y t some a q = carried (kept_in c img) (uid_in img) (epoch_in img) z.carries q x y t some a

  module _ (h : Header) (at : h ≡ header img i) where
    -- ---- a slot that is not kept
    module _ (f : kept c h ≡ false) where
      unkept-flag : (t : ℕ) → survives c (header img) (i + 1) t ≡ survives c (header img) i t
      unfolding beats
      unkept-flag t = survives-more c (header img) i t ∙ (rw (← at, f) (and-true (survives c (header img) i t)))

      unkept-here : survives c (header img) (i + 1) i ≡ false
      unfolding survives wins
      unkept-here = rw (← at, f) (and-false (is_payload h))

      unkept-version : version_below c (header img) i ≡ false
      unfolding version_below
      unkept-version = rw (← at, f)

      judging-over : {flags' : List Bool} {l' : List ℕ} → i < n → proper c h ≡ true → Over l i flags flags' l' → Judging img n c m (i + 1) l' flags' twice
      judging-over {flags'} {l'} b p o =
          let w : i < m = omega (arith, z.fits) in
          let long : i < length flags = omega (arith, z.long, z.carries.linked.lent.few) in
          rw (o.skipped, o.cleared)
          (record {
            carries = carrying-skip (kept_in c img) (uid_in img) (epoch_in img) z.carries w (ap (kept c) (sym at) ∙ f);
            low = omega arith;
            fits = z.fits;
            long = length-set flags i false ∙ z.long;
            flagged = λ t a.
                ⊎_elim
                (λ (r : t ≡ i). rw r (get_or-set_same flags i false false long ∙ sym unkept-here))
                (λ (r : t < i). get_or-set_other flags i t false false (λ e. omega arith) ∙ z.flagged t r ∙ sym (unkept-flag t))
                (eq-or-lt_of_le (omega arith));
            fine = λ t a.
                ⊎_elim (λ (r : t ≡ i). rw (r, ← at) p) (λ (r : t < i). z.fine t r) (eq-or-lt_of_le (omega arith));
            twice-is =
                z.twice-is
                ∙ sym (any-more (version_below c (header img)) i ∙ (rw unkept-version (or-false (any_of (version_below c (header img)) i))));
          })

    -- ---- a slot that is kept
    module _ (k : kept c h ≡ true) (w0 : has_zero h ≡ false) where
      some-uid : h.uid ≢ 0
      some-uid e = omega (arith, (whole_says h w0).uid-lo)

      kept-version : {b : Bool} → b ≡ any_of (pair_in l h.uid h.epoch) i → version_below c (header img) i ≡ b
      unfolding version_below pair_in
      kept-version e =
          rw (← at, k, e)
          (sym (some_same (pair_in l h.uid h.epoch) _ i (λ t a. pair_is h.uid h.epoch t some-uid a nat_eq)))

      kept-beaten : any_of (newer_in l h.uid h.epoch) i ≡ any_of (λ t. beats c h (header img t)) i
      unfolding newer_in beats
      kept-beaten = some_same (newer_in l h.uid h.epoch) _ i (λ t a. pair_is h.uid h.epoch t some-uid a (λ p q. ltb q p))

      kept_here : {b : Bool} → b ≡ (is_payload h && not (any_of (newer_in l h.uid h.epoch) i)) → b ≡ survives c (header img) (i + 1) i
      unfolding survives wins
      kept_here e =
          rw (e, kept-beaten, any-more (λ t. beats c (header img i) (header img t)) i, ← at, k, unbeaten c h, or-false (any_of (λ t. beats c h (header img t)) i))

      -- an older one of its uid, that survived so far, does so no longer
      kept-older : (t : ℕ) → t < i → (survives c (header img) i t && not (older_in l h.uid h.epoch t)) ≡ survives c (header img) (i + 1) t
      unfolding older_in
      kept-older t a =
          let g = header img t in
          ⊎_elim
          (λ (y : kept c g ≡ true).
          rw (survives-more c (header img) i t, ← at, pair_is h.uid h.epoch t some-uid a ltb, beats-older c g h y k))
          (λ (f : kept c g ≡ false). rw (survives-more c (header img) i t, survives-kept c (header img) i t f))
          (cases (kept c g))

      judging-met : {flags' : List Bool} {l' : List ℕ} {b : Bool} → i < n → proper c h ≡ true → Admitted m l i h flags flags' l' b
          → Judging img n c m (i + 1) l' flags' (twice || b)
      judging-met {flags'} {l'} {b} d p y =
          let x = h.uid in
          let e = h.epoch in
          let w : i < m = omega (arith, z.fits) in
          let u = y.met.outdone in
          rw y.linked
          (record {
            carries =
                carrying-link (kept_in c img) (uid_in img) (epoch_in img) z.carries w (ap (kept c) (sym at) ∙ k) (ap (λ (g : Header). g.uid) at)
                (ap (λ (g : Header). g.epoch) at) some-uid;
            low = omega arith;
            fits = z.fits;
            long = u.long;
            flagged = λ t a.
                ⊎_elim
                (λ (r : t ≡ i). rw r (kept_here y.met.here))
                (λ (r : t < i). u.below t r ∙ ap (λ v. v && not (older_in l x e t)) (z.flagged t r) ∙ kept-older t r)
                (eq-or-lt_of_le (omega arith));
            fine = λ t a.
                ⊎_elim (λ (r : t ≡ i). rw (r, ← at) p) (λ (r : t < i). z.fine t r) (eq-or-lt_of_le (omega arith));
            twice-is = rw z.twice-is (sym (any-more (version_below c (header img)) i ∙ ap (λ v. any_of (version_below c (header img)) i || v) (kept-version y.met.twice-is)));
          })

  -- ---- a slot more
  pub judging-judges : i < n → Judges m i l flags
  judging-judges h = record { linked = z.carries.linked; within = omega (arith, z.fits); long = z.long }

  module _ {h : Header} {flags' : List Bool} {l' : List ℕ} {r : Result Bool Refusal} (d : i < n) (at : h ≡ header img i) (y : JudgedSlot m l i c h flags flags' l' r) where
    pub judging-on : {b twice' : Bool} → r ≡ Ok b → twice' ≡ (twice || b) → Judging img n c m (i + 1) l' flags' twice'
    judging-on {b} e q =
        let v = y.found e in
        rw q
        (⊎_elim
        (λ (k : kept c h ≡ true). judging-met h at k (v.whole k) d v.proper-is (v.met k))
        (λ (g : kept c h ≡ false). rw ((v.over g).1, or-false twice) (judging-over h at g d v.proper-is (v.over g).0))
        (cases (kept c h)))

    pub judging-bad : {e : Refusal} → c ≡ clock_of img → r ≡ Err e → Judged img n m l' flags' (Err e)
    unfolding all_proper
    judging-bad q e =
        let v = y.refused e in
        let bad : every (λ s. proper (clock_of img) (header img s)) n ≡ false =
        refuted _ (λ a. never (proper c h) (rw (at, q) (every-at (λ s. proper (clock_of img) (header img s)) n a i d)) v.1) in
        rw v.0 (refuses bad)

  pub judging-end : Headers img n → n ≤ i → c ≡ clock_of img → JudgedAll img n m l flags twice
  unfolding all_proper version_twice survivor survives wins
  judging-end hd a q =
      let e : i ≡ n = omega (arith, z.low) in
      record {
        proper-is = at_every (λ s. proper (clock_of img) (header img s)) n (λ t b. rw (← q) (z.fine t (omega arith)));
        lent = z.carries.linked.lent;
        marked = record {
          headers = hd;
          flagged = record { long = z.long; same = λ t b. rw (← q, ← e) (z.flagged t (omega arith)) };
        };
        twice-is = z.twice-is ∙ (rw (e, q));
      }

module _ {img : List ℕ} {n m : ℕ} {l : List ℕ} {flags : List Bool} (z : Room img n m l flags) where
  pub room-clock : 2 < length img
  room-clock = omega (arith, z.headers.long)

  pub room-header : {i : ℕ} → i < n → HeaderFits img n i
  room-header h = header-in z.headers h

  pub room-headers : Headers img n
  room-headers = z.headers

pub ruleset judgements = (refuses, finds, judges-at, judges-flag, judges-filled, over-is, filled-judges, filled-admits, filled-admitted, filled-new, judged-free, judged-bad)

pub ruleset judgings = (finds, room-clock, room-header, room-headers, judging-start, judging-judges, judging-on, judging-bad, judging-end)
