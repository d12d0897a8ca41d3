-- A slot among those of its uid before it: what contracts say of the flags, and the laws of the loops.
use Rattle.std.specs.Prelude.{ℕ, ◌-◌, ◌≤◌, ◌<◌, ◌≡◌, ◌≢◌, Bool, true, not, ◌&&◌, List, length, get_or, set, leb, eqb}
use Rattle.std.proofs.Math.Path.{refl, sym}
use Rattle.std.proofs.Common.{◌∙◌, length-set, get_or-set_same, arith}
use Rattle.std.proofs.Math.Bool.{false, and-true, and-false}
use Rattle.std.proofs.Math.Seq.{get_or-set_other}
use borrow.Author.Tests.{eq-eqb, eqb-true, lt-ltb, le-ltb}
use Rattle.std.proofs.Math.Decide.{ℕ_discrete, dec_lt}
use Rattle.search.specs.Bools.{and_left, refuted}
use Rattle.search.specs.Some.{any_of}
use Rattle.image.specs.declared.header.Header.{Header}
use Rattle.image.specs.Layout.{has_zero, is_payload}
use Rattle.image.specs.Whole.{whole_says}
use Rattle.chains.specs.Chains.{number_of, label_of, linked_at, pair_in, newer_in, older_in, Linked, Kin}
use Rattle.chains.specs.Requires.{At, AllLinked, FromKin, OnKin}
use Rattle.chains.specs.Walking.{Meeting, meeting-start, meeting-hit, meeting-next, kin-none}

pub record Flags (flags : List Bool) : Type 0 where
  pub long : length flags ≡ 1024

-- the flags of slots of that number and a smaller label are cleared, the others stay
pub record Outdone (l : List ℕ) (x y i : ℕ) (flags flags' : List Bool) : Type 0 where
  pub long : length flags' ≡ 1024
  pub below : (t : ℕ) → t < i → get_or flags' t false ≡ (get_or flags t false && not (older_in l x y t))

-- slot s has the header h, whose words are all there, after s slots
pub record Admits (m s : ℕ) (l : List ℕ) (h : Header) (flags : List Bool) : Type 0 where
  pub linked : Linked m s l
  pub within : s < m
  pub whole : has_zero h ≡ false
  pub long : length flags ≡ 1024

-- .. and k is the highest place of its uid
pub record Rival (m s k : ℕ) (l : List ℕ) (h : Header) (flags : List Bool) : Type 0 where
  pub admits : Admits m s l h flags
  pub kin : Kin l h.uid s k

-- what it meets: is one of its uid and epoch among them? Older ones are outdone, and it survives if none is newer
pub record Met (l : List ℕ) (s : ℕ) (h : Header) (flags flags' : List Bool) (twice : Bool) : Type 0 where
  pub outdone : Outdone l h.uid h.epoch s flags flags'
  pub here : get_or flags' s false ≡ (is_payload h && not (any_of (newer_in l h.uid h.epoch) s))
  pub twice-is : twice ≡ any_of (pair_in l h.uid h.epoch) s

pub record Admitted (m : ℕ) (l : List ℕ) (s : ℕ) (h : Header) (flags flags' : List Bool) (l' : List ℕ) (twice : Bool) : Type 0 where
  pub met : Met l s h flags flags' twice
  pub linked : l' ≡ linked_at m l s h.uid h.epoch

-- ---- a slot of that number and a larger label
newer-number : (l : List ℕ) (x y t : ℕ) → newer_in l x y t ≡ true → number_of l t ≡ x
unfolding newer_in
newer-number l x y t e = eqb-true (number_of l t) x (and_left (eqb (number_of l t) x) _ e)

pub newer-start : {m i x k : ℕ} (y : ℕ) {l : List ℕ} → FromKin m i k x l → Meeting (newer_in l x y) m i x l k
newer-start {m} {i} {x} y {l} z = meeting-start (newer_in l x y) z.all (newer-number l x y) z.kin

module _ {m i x y k g : ℕ} {l : List ℕ} (z : Meeting (newer_in l x y) m i x l k) (left : k ≡ 0 → ⊥) (e : g ≡ label_of l (k - 1)) where
  pub newer-hit : y < g → true ≡ any_of (newer_in l x y) i
  unfolding newer_in
  newer-hit h = meeting-hit z left (rw (← e, eq-eqb (number_of l (k - 1)) x (z.at (omega arith)), lt-ltb y g h)) refl

  pub newer-miss : {j : ℕ} → g ≤ y → Kin l x (k - 1) j → Meeting (newer_in l x y) m i x l j
  unfolding newer_in
  newer-miss h q = meeting-next z left (rw (← e, eq-eqb (number_of l (k - 1)) x (z.at (omega arith)), le-ltb y g h)) refl q

-- ---- the loop that clears flags: those from the place k on are done
pub record Outdoing (m i x y : ℕ) (l : List ℕ) (flags : List Bool) (k : ℕ) (flags' : List Bool) : Type 0 where
  pub all : AllLinked m i x l
  pub low : k ≤ i
  pub at : 0 < k → number_of l (k - 1) ≡ x
  pub long : length flags' ≡ 1024
  pub done : (t : ℕ) → k ≤ t → t < i → get_or flags' t false ≡ (get_or flags t false && not (older_in l x y t))
  pub rest : (t : ℕ) → t < k → get_or flags' t false ≡ get_or flags t false

-- a slot of another number is left alone
older-other : (l : List ℕ) (x y t : ℕ) (b : Bool) → number_of l t ≢ x → b ≡ (b && not (older_in l x y t))
unfolding older_in
older-other l x y t b u =
    let f : older_in l x y t ≡ false = refuted (older_in l x y t) (λ e. u (eqb-true (number_of l t) x (and_left (eqb (number_of l t) x) _ e))) in
    rw f (sym (and-true b))

pub outdoing-start : {m i x k : ℕ} (y : ℕ) {l : List ℕ} {flags : List Bool} → FromKin m i k x l → Flags flags → Outdoing m i x y l flags k flags
outdoing-start {m} {i} {x} y {l} {flags} w f =
    let q = w.kin in
    record {
      all = w.all;
      low = q.low;
      at = q.at;
      long = f.long;
      done = λ t a h. older-other l x y t (get_or flags t false) (q.none t a h);
      rest = λ t h. refl;
    }

module _ {m i x y k : ℕ} {l : List ℕ} {flags flags' : List Bool} (z : Outdoing m i x y l flags k flags') (left : k ≡ 0 → ⊥) where
  pub outdoing-at : At m (k - 1) l
  outdoing-at = record { lent = z.all.linked.lent; within = omega (arith, z.low, z.all.linked.low) }

  pub outdoing-on : OnKin m i k x l
  outdoing-on = record { all = z.all; low = z.low; here = omega arith; at = z.at (omega arith) }

  pub outdoing-flag : k - 1 < length flags'
  outdoing-flag = omega (arith, z.long, z.low, z.all.linked.low, z.all.linked.lent.few)

  pub outdoing-less : {j : ℕ} → Kin l x (k - 1) j → j < k
  outdoing-less q = omega (arith, q.low)

  -- the next place, whatever became of the flag here
  outdoing-next : {j : ℕ} (flags'' : List Bool) → length flags'' ≡ 1024 → ((t : ℕ) → t ≢ k - 1 → get_or flags'' t false ≡ get_or flags' t false)
      → get_or flags'' (k - 1) false ≡ (get_or flags (k - 1) false && not (older_in l x y (k - 1))) → Kin l x (k - 1) j → Outdoing m i x y l flags j flags''
  outdoing-next {j} flags'' long others here q =
      record {
        all = z.all;
        low = omega (arith, q.low, z.low);
        at = q.at;
        long = long;
        done = λ t a h. elim (ℕ_discrete t (k - 1)) [
          | yes e ↦ rw e here
          | no e ↦ elim (dec_lt t (k - 1)) [
            | yes c ↦ others t e ∙ z.rest t (omega arith) ∙ older-other l x y t (get_or flags t false) (q.none t a c)
            | no c ↦ others t e ∙ z.done t (omega arith) h
          ]
        ];
        rest = λ t h. others t (λ e. omega (arith, q.low)) ∙ z.rest t (omega (arith, q.low));
      }

  module _ {g j : ℕ} (e : g ≡ label_of l (k - 1)) (q : Kin l x (k - 1) j) where
    pub outdoing-hit : {flags'' : List Bool} → g < y → flags'' ≡ set flags' (k - 1) false → Outdoing m i x y l flags j flags''
    unfolding older_in
    outdoing-hit {flags''} h f =
        rw f
        (outdoing-next (set flags' (k - 1) false)
        (length-set flags' (k - 1) false ∙ z.long)
        (λ t u. get_or-set_other flags' (k - 1) t false false u)
        (get_or-set_same flags' (k - 1) false false outdoing-flag
        ∙ (rw (← e, eq-eqb (number_of l (k - 1)) x (z.at (omega arith)), lt-ltb g y h) (sym (and-false (get_or flags (k - 1) false)))))
        q)

    pub outdoing-miss : {flags'' : List Bool} → y ≤ g → flags'' ≡ flags' → Outdoing m i x y l flags j flags''
    unfolding older_in
    outdoing-miss {flags''} h f =
        rw f
        (outdoing-next flags' z.long
        (λ t u. refl)
        (z.rest (k - 1) (omega arith)
        ∙ (rw (← e, eq-eqb (number_of l (k - 1)) x (z.at (omega arith)), le-ltb g y h) (sym (and-true (get_or flags (k - 1) false)))))
        q)

pub outdoing-end : {m i x y k : ℕ} {l : List ℕ} {flags flags' : List Bool} → Outdoing m i x y l flags k flags' → k ≡ 0 → Outdone l x y i flags flags'
outdoing-end z e = record { long = z.long; below = λ t h. z.done t (omega arith) h }

-- ---- a slot that is admitted
module _ {m s : ℕ} {l : List ℕ} {h : Header} {flags : List Bool} (z : Admits m s l h flags) where
  pub admits-all : AllLinked m s h.uid l
  admits-all = record { linked = z.linked; some = λ e. omega (arith, (whole_says h z.whole).uid-lo) }

  pub admits-at : At m s l
  admits-at = record { lent = z.linked.lent; within = z.within }

  pub admits-flags : Flags flags
  admits-flags = record { long = z.long }

  pub admits-flag : (flags' : List Bool) → length flags' ≡ 1024 → s < length flags'
  admits-flag flags' e = omega (arith, z.within, z.linked.lent.few)

  -- one flag is set, and those below it are as they were
  flag-set : {flags' : List Bool} (r : Bool) → Outdone l h.uid h.epoch s flags flags' → Outdone l h.uid h.epoch s flags (set flags' s r)
  flag-set {flags'} r o =
      record {
        long = length-set flags' s r ∙ o.long;
        below = λ t a. get_or-set_other flags' s t r false (λ e. omega arith) ∙ o.below t a;
      }

  payload-whole : leb h.kind 2 ≡ is_payload h
  unfolding is_payload
  payload-whole = rw z.whole

  module _ {flags' : List Bool} {b : Bool} (o : Outdone l h.uid h.epoch s flags flags') (n : b ≡ any_of (newer_in l h.uid h.epoch) s) where
    rival-beaten : {r : Bool} {flags'' : List Bool} → b ≡ true → flags'' ≡ set flags' s false → r ≡ any_of (pair_in l h.uid h.epoch) s → Met l s h flags flags'' r
    rival-beaten t f p =
        record {
          outdone = rw f (flag-set false o);
          here = rw (f, ← n, t) (get_or-set_same flags' s false false (admits-flag flags' o.long) ∙ sym (and-false (is_payload h)));
          twice-is = p;
        }

    rival-wins : {r : Bool} {flags'' : List Bool} → b ≡ false → flags'' ≡ set flags' s (leb h.kind 2) → r ≡ any_of (pair_in l h.uid h.epoch) s → Met l s h flags flags'' r
    rival-wins t f p =
        record {
          outdone = rw f (flag-set (leb h.kind 2) o);
          here = rw (f, ← n, t) (get_or-set_same flags' s (leb h.kind 2) false (admits-flag flags' o.long) ∙ payload-whole ∙ sym (and-true (is_payload h)));
          twice-is = p;
        }

  -- the only one of its uid
  pub meet-alone : {k : ℕ} {flags'' : List Bool} → Kin l h.uid s k → k ≡ 0 → flags'' ≡ set flags s (leb h.kind 2) → Met l s h flags flags'' false
  unfolding pair_in
  meet-alone {k} q e f =
      let x = h.uid in
      let y = h.epoch in
      let alone : Outdone l x y s flags flags = record { long = z.long; below = λ t a. older-other l x y t (get_or flags t false) (q.none t (omega arith) a) } in
      record {
        outdone = rw f (flag-set (leb h.kind 2) alone);
        here =
            rw (f, kin-none (newer_in l x y) (newer-number l x y) q e)
            (get_or-set_same flags s (leb h.kind 2) false (admits-flag flags z.long) ∙ payload-whole ∙ sym (and-true (is_payload h)));
        twice-is = sym (kin-none (pair_in l x y) (λ t u. eqb-true (number_of l t) x (and_left (eqb (number_of l t) x) _ u)) q e);
      }

pub rival-of : {m s k : ℕ} {l : List ℕ} {h : Header} {flags : List Bool} → Admits m s l h flags → Kin l h.uid s k → Rival m s k l h flags
rival-of z e = record { admits = z; kin = e }

module _ {m s k : ℕ} {l : List ℕ} {h : Header} {flags : List Bool} (z : Rival m s k l h flags) where
  pub rival-kin : FromKin m s k h.uid l
  rival-kin = record { all = admits-all z.admits; kin = z.kin }

  pub rival-flags : Flags flags
  rival-flags = admits-flags z.admits

  pub rival-flag : {flags' : List Bool} {x y : ℕ} → Outdone l x y s flags flags' → s < length flags'
  rival-flag {flags'} o = admits-flag z.admits flags' o.long

  pub beaten-met : {flags' flags'' : List Bool} {b r : Bool} → Outdone l h.uid h.epoch s flags flags' → b ≡ any_of (newer_in l h.uid h.epoch) s → b ≡ true
      → flags'' ≡ set flags' s false → r ≡ any_of (pair_in l h.uid h.epoch) s → Met l s h flags flags'' r
  beaten-met o n t f p = rival-beaten z.admits o n t f p

  pub wins-met : {flags' flags'' : List Bool} {b r : Bool} → Outdone l h.uid h.epoch s flags flags' → b ≡ any_of (newer_in l h.uid h.epoch) s → b ≡ false
      → flags'' ≡ set flags' s (leb h.kind 2) → r ≡ any_of (pair_in l h.uid h.epoch) s → Met l s h flags flags'' r
  wins-met o n t f p = rival-wins z.admits o n t f p

pub admitted : {m s : ℕ} {l l' : List ℕ} {h : Header} {flags flags' : List Bool} {r : Bool} → Met l s h flags flags' r → l' ≡ linked_at m l s h.uid h.epoch
    → Admitted m l s h flags flags' l' r
admitted z e = record { met = z; linked = e }

pub ruleset newer = (newer-start, newer-hit, newer-miss)

pub ruleset outdoes = (outdoing-start, outdoing-at, outdoing-on, outdoing-flag, outdoing-less, outdoing-hit, outdoing-miss, outdoing-end)

pub ruleset admissions = (admits-all, admits-at, admits-flags, admits-flag, rival-of, rival-kin, rival-flags, rival-flag, beaten-met, wins-met, meet-alone, admitted)
