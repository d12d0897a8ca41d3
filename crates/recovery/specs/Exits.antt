-- The ways out of recover's functions.
use Rattle.std.specs.Prelude.{ℕ, ◌+◌, ◌≤◌, ◌<◌, ◌^◌, ◌≡◌, refl, Bool, false, not, ◌&&◌, List, length, get_or, leb, eqb, Option, Some, None, Result, Ok, Err, max}
use Rattle.std.proofs.Math.Decide.{dec_lt}
use Rattle.std.proofs.Common.{sym, ◌∙◌, ⊎_elim, Fits, add-one, arith}
use Rattle.std.proofs.Math.Path.{ap}
use Rattle.std.proofs.Math.Bool.{true, and-false}
use Rattle.std.specs.Int.{w32}
use borrow.Author.Tests.{lt-ltb, le-ltb, eq-eqb, ne_eqb, eqb-true, leb-true, not-false}
use Rattle.search.specs.Bools.{cases, and_left, and_right, tests}
use Rattle.search.specs.First.{where_found, first_of, Sought, sought-start, sought-next, found-hit, found-end, found_first, loops as firsts}
use Rattle.search.specs.Largest.{largest-top, raised, Climbing, climbing-start, climbing-next, climbing-end}
use Rattle.reply.specs.declared.Refusal.{Refusal}
use Rattle.reply.specs.declared.Refusal.TheVariants.{BadSizes, BadClock}
use Rattle.reply.specs.Refusals.{Check, refuse, by_check, not-refused}
use Rattle.image.specs.declared.header.Header.{Header}
use Rattle.image.specs.Layout.{most_slots, most_number, queue_board, is_blank, has_zero, is_payload, header, key_at, slots_of, width_of, clock_of, shape_ok, clock_ok, free_header}
use Rattle.image.specs.Line.{header_line, stored, store_line}
use Rattle.image.specs.declared.name.Name.{Name}
use Rattle.image.specs.Name.{name_at, misnamed, name-is, misnamed-false}
use Rattle.image.specs.Whole.{payload-filled}
use Rattle.image.specs.Requires.{HeaderFits, Sized, Slot, sized-after}
use Rattle.image.specs.Laws.{shaped, length-stored, stored-whole}
use Rattle.transient.specs.Layout.{threads_of, threads_ok, blank}
use Rattle.transient.specs.Store.{store, Outcome, outcome}
use Rattle.transient.specs.Requires.{ThreadRoom, Blanking, Shaped, notes-after}
use Rattle.transient.specs.Laws.{threads-head, blank-length}
use Rattle.index.specs.Index.{rebuilt}
use Rattle.survival.specs.Survivors.{kept, survivor, survives_on}
use Rattle.survival.specs.Requires.{kept_anti, Marked, SlotMarked, FlagAt, headers-of, sized-marked, all-marked, header-in, headers-header_of, slot-marked, flag_at, flag-header, flag-of, marks}
use Rattle.survival.specs.Laws.{flag_is}
use Rattle.acceptance.specs.Requires.{head_check, nameless, slots_check}
use Rattle.acceptance.specs.Laws.{image-is}
use Rattle.acceptance.specs.Checking.{Checked, flags-new, checked-same}
use Rattle.acceptance.specs.Sound.{Sound, sound, filled-proper}
use Rattle.recovery.specs.declared.Numbers.{Numbers}
use Rattle.recovery.specs.declared.Recovery.{Recovery}
use Rattle.recovery.specs.declared.Recovery.TheVariants.{WentOn, Done}
use Rattle.recovery.specs.Recover.{anti_at, stale, next_freed, next_uid, next_order, lengths_fit, recover_check, recovered_notes, freeing, recover}
use Rattle.recovery.specs.Requires.{uid_of, recover_entry_check, anti_up_to, finished, numbers, numbers_of, notes_over, Numbered, Noting, Finishing, Judged, recover_sized}
use Rattle.recovery.specs.Notes.{threads-some, threads-notes}

-- ---- what is freed next
pub anti-is : (l : List ℕ) (s : ℕ) {c : ℕ} {r : Bool} → c ≡ clock_of l → r ≡ kept_anti c (header l s) → r ≡ anti_at l s
unfolding anti_at kept_anti
anti-is l s e h = rw (← e) h

module _ (l : List ℕ) (n s : ℕ) (flags : List Bool) (z : FlagAt l n s flags) where
  pub dies-not : get_or flags s false ≡ true → false ≡ not (survivor l n s)
  dies-not t = rw (flag_is z.marked.flagged z.within t)

  pub dies-yes : get_or flags s false ≡ false → true ≡ not (survivor l n s)
  dies-yes t = rw (flag_is z.marked.flagged z.within t)

module _ (l : List ℕ) (n s : ℕ) {d : Bool} (de : d ≡ not (survivor l n s)) where
  pub stale-survives : d ≡ false → false ≡ stale l n s
  unfolding stale
  stale-survives e = rw (← de, e) (sym (and-false (not (is_blank (header l s)))))

  module _ {h : Header} {b : Bool} (e : d ≡ true) (at : h ≡ header l s) (bl : b ≡ is_blank h) where
    pub stale-blank : b ≡ true → false ≡ stale l n s
    unfolding stale
    stale-blank t = rw (← at, ← bl, t)

    module _ {a : Bool} (f : b ≡ false) (k : a ≡ anti_at l s) where
      pub stale-anti : a ≡ true → false ≡ stale l n s
      unfolding stale
      stale-anti y = rw (← at, ← bl, f, ← de, e, ← k, y)

      pub stale-yes : a ≡ false → true ≡ stale l n s
      unfolding stale
      stale-yes y = rw (← at, ← bl, f, ← de, e, ← k, y)

module _ (l : List ℕ) (s : ℕ) {f : Option ℕ} where
  pub anti-before : {t : ℕ} → f ≡ Some t → Some t ≡ anti_up_to l s f
  unfolding anti_up_to
  anti-before e = rw e

  pub anti-here : {a : Bool} → f ≡ None → a ≡ anti_at l s → a ≡ true → Some s ≡ anti_up_to l s f
  unfolding anti_up_to
  anti-here e q t = rw (e, ← q, t)

  pub anti-none : {a : Bool} → f ≡ None → a ≡ anti_at l s → a ≡ false → None ≡ anti_up_to l s f
  unfolding anti_up_to
  anti-none e q t = rw (e, ← q, t)

-- the walk has passed s of n slots, none of them stale, and has the first kept DELETE of these
pub record Freeing (l : List ℕ) (n s : ℕ) (anti : Option ℕ) : Type 0 where
  pub sought : Sought (stale l n) n s
  pub anti-is : anti ≡ first_of (anti_at l) s

pub freeing-start : (l : List ℕ) (n : ℕ) → Freeing l n 0 None
unfolding first_of
freeing-start l n = record { sought = sought-start (stale l n) n; anti-is = refl }

found-same : (f : Option ℕ) → where_found f Some None ≡ f
found-same (Some t) = refl
found-same None = refl

-- a survivor is no DELETE
survivor-anti : (l : List ℕ) (n s : ℕ) → survivor l n s ≡ true → anti_at l s ≡ false
unfolding survivor is_payload anti_at
survivor-anti l n s e =
    let h = header l s in
    let top = leb-true h.kind 2 (and_right (not (has_zero h)) _ (and_left (not (has_zero h) && leb h.kind 2) _ e)) in
    rw (ne_eqb h.kind 3 (λ q. omega arith)) (and-false (kept (clock_of l) h))

module _ {l : List ℕ} {n s : ℕ} {anti : Option ℕ} (z : Freeing l n s anti) (h : s < n) {d : Bool} (e : d ≡ not (survivor l n s)) where
  pub freeing-survives : d ≡ false → Freeing l n (s + 1) anti
  unfolding first_of
  freeing-survives f =
      let v : survivor l n s ≡ true = not-false (survivor l n s) (sym e ∙ f) in
      record {
        sought = sought-next z.sought h (stale-survives l n s e f) refl;
        anti-is = rw (add-one s, ← z.anti-is, survivor-anti l n s v) (sym (found-same anti));
      }

  module _ {r : Bool} (t : d ≡ true) (st : r ≡ stale l n s) where
    pub freeing-stale : r ≡ true → Some s ≡ next_freed l n
    unfolding next_freed
    freeing-stale y = rw (← found-hit z.sought h st y)

    pub freeing-on : {anti' : Option ℕ} → r ≡ false → anti' ≡ anti_up_to l s anti → Freeing l n (s + 1) anti'
    unfolding first_of anti_up_to
    freeing-on f q = record { sought = sought-next z.sought h st f; anti-is = rw (add-one s, ← z.anti-is) q }

pub freeing-end : {l : List ℕ} {n s : ℕ} {anti : Option ℕ} → Freeing l n s anti → n ≤ s → anti ≡ next_freed l n
unfolding next_freed
freeing-end {l} {n} {s} z h =
    let e : s ≡ n = omega (arith, z.sought.low) in
    rw (← found-end z.sought h) (z.anti-is ∙ (rw e))

pub freed-below : (l : List ℕ) (n s : ℕ) → next_freed l n ≡ Some s → s < n
unfolding next_freed
freed-below l n s e = go (first_of (stale l n) n) refl
  where
    go : (f : Option ℕ) → first_of (stale l n) n ≡ f → s < n
    go (Some t) q = let z : Some t ≡ Some s = rw q at e in let y : t ≡ s = cc in let h : t < n = (found_first (stale l n) n q).below in omega arith
    go None q = let z : first_of (anti_at l) n ≡ Some s = rw q at e in (found_first (anti_at l) n z).below

-- ---- the next uid
module _ (l : List ℕ) (n s b : ℕ) (flags : List Bool) (z : FlagAt l n s flags) where
  pub raise-miss : get_or flags s false ≡ false → b ≡ raised (survivor l n) (uid_of l) s b
  unfolding raised
  raise-miss t = rw (flag_is z.marked.flagged z.within t)

  module _ {h : Header} (t : get_or flags s false ≡ true) (at : h ≡ header l s) where
    raise-up : b < h.uid → h.uid ≡ raised (survivor l n) (uid_of l) s b
    unfolding raised
    raise-up u =
        let e : uid_of l s ≡ h.uid = ap (λ (x : Header). x.uid) (sym at) in
        rw (flag_is z.marked.flagged z.within t, e, lt-ltb b h.uid u)

    raise-level : h.uid ≤ b → b ≡ raised (survivor l n) (uid_of l) s b
    unfolding raised
    raise-level u =
        let e : uid_of l s ≡ h.uid = ap (λ (x : Header). x.uid) (sym at) in
        rw (flag_is z.marked.flagged z.within t, e, le-ltb b h.uid u)

    pub raise-most : {r : ℕ} → r ≡ max b h.uid → r ≡ raised (survivor l n) (uid_of l) s b
    raise-most {r} e = elim (dec_lt b h.uid) [
      | yes u ↦ let v : r ≡ h.uid = omega (arith, e) in v ∙ raise-up u
      | no u ↦ let v : r ≡ b = omega (arith, e) in v ∙ raise-level (omega arith)
    ]

-- ---- the next order number
module _ (l : List ℕ) (n w s : ℕ) {name : Name} (at : name ≡ name_at l n w s) where
  board-read : (header l s).board ≡ name.board
  board-read = ap (λ (x : Name). x.board) (sym (at ∙ name-is l n w s))

  key-read : key_at l n w s ≡ name.key
  key-read = ap (λ (x : Name). x.key) (sym (at ∙ name-is l n w s))

module _ (l : List ℕ) (n w s b : ℕ) (flags : List Bool) (z : SlotMarked l n w s flags) where
  pub order-miss : get_or flags s false ≡ false → b ≡ raised (survives_on l n queue_board) (key_at l n w) s b
  unfolding raised survives_on
  order-miss t = rw (flag_is z.flagged z.slot.within t)

  module _ {name : Name} (t : get_or flags s false ≡ true) (at : name ≡ name_at l n w s) where
    pub order-job : (name.board ≡ queue_board → ⊥) → b ≡ raised (survives_on l n queue_board) (key_at l n w) s b
    unfolding raised survives_on
    order-job d = rw (flag_is z.flagged z.slot.within t, board-read l n w s at, ne_eqb name.board queue_board d)

    module _ (q : name.board ≡ queue_board) where
      order-up : b < name.key → name.key ≡ raised (survives_on l n queue_board) (key_at l n w) s b
      unfolding raised survives_on
      order-up u =
          rw (flag_is z.flagged z.slot.within t, board-read l n w s at, eq-eqb name.board queue_board q, key-read l n w s at, lt-ltb b name.key u)

      order-level : name.key ≤ b → b ≡ raised (survives_on l n queue_board) (key_at l n w) s b
      unfolding raised survives_on
      order-level u =
          rw (flag_is z.flagged z.slot.within t, board-read l n w s at, eq-eqb name.board queue_board q, key-read l n w s at, le-ltb b name.key u)

      pub order-most : {r : ℕ} → r ≡ max b name.key → r ≡ raised (survives_on l n queue_board) (key_at l n w) s b
      order-most {r} e = elim (dec_lt b name.key) [
        | yes u ↦ let v : r ≡ name.key = omega (arith, e) in v ∙ order-up u
        | no u ↦ let v : r ≡ b = omega (arith, e) in v ∙ order-level (omega arith)
      ]

-- ---- both, in one walk
pub record Numbering (l : List ℕ) (n w : ℕ) (s uid order : ℕ) : Type 0 where
  pub uids : Climbing (survivor l n) (uid_of l) n s uid
  pub orders : Climbing (survives_on l n queue_board) (key_at l n w) n s order

pub numbering_start : (l : List ℕ) (n w : ℕ) → Numbering l n w 0 0 0
numbering_start l n w = record { uids = climbing-start (survivor l n) (uid_of l) n; orders = climbing-start (survives_on l n queue_board) (key_at l n w) n }

module _ {l : List ℕ} {n w s uid order : ℕ} (z : Numbering l n w s uid order) where
  pub numbering-next : {uid' order' : ℕ} → s < n → uid' ≡ raised (survivor l n) (uid_of l) s uid → order' ≡ raised (survives_on l n queue_board) (key_at l n w) s order
      → Numbering l n w (s + 1) uid' order'
  numbering-next h p q = record { uids = climbing-next z.uids h p; orders = climbing-next z.orders h q }

  module _ {flags : List Bool} (y : Numbered l n w flags) (h : n ≤ s) where
    pub uid-fits : Fits w32 (uid + 1)
    uid-fits = omega (arith, largest-top (survivor l n) (uid_of l) most_number n y.uids, climbing-end z.uids h)

    pub order-fits : Fits w32 (order + 1)
    order-fits = omega (arith, largest-top (survives_on l n queue_board) (key_at l n w) most_number n y.orders, climbing-end z.orders h)

  pub numbers-are : n ≤ s → numbers (uid + 1) (order + 1) ≡ numbers_of l n w
  unfolding next_uid next_order
  numbers-are h = rw (climbing-end z.uids h, climbing-end z.orders h)

pub numbered-slot : {l : List ℕ} {n w s : ℕ} {flags : List Bool} → Numbered l n w flags → s < n → SlotMarked l n w s flags
numbered-slot z h = slot-marked z.marked h

pub numbered-flag : {l : List ℕ} {n w s : ℕ} {flags : List Bool} → Numbered l n w flags → s < n → FlagAt l n s flags
numbered-flag z h = flag_at (all-marked z.marked) h

pub order-name : {l : List ℕ} {n w s : ℕ} {flags : List Bool} → SlotMarked l n w s flags → Slot l n w s
order-name z = z.slot

-- ---- the last call
pub finish-marked : {wk l t : List ℕ} {flags : List Bool} {n w : ℕ} → Finishing wk l t flags n w → Marked l n flags
finish-marked z = all-marked z.numbers.marked

pub finish-header : (wk l t : List ℕ) (flags : List Bool) {n w s : ℕ} {f : Option ℕ} → Finishing wk l t flags n w → f ≡ next_freed l n → f ≡ Some s → HeaderFits l n s
finish-header wk l t flags {n} {w} {s} z e a = header-in (headers-of z.numbers.marked.sized) (freed-below l n s (sym e ∙ a))

-- working becomes a copy: as long as it was
pub finish-long : {wk l t : List ℕ} {flags : List Bool} {n w : ℕ} {wk' : List ℕ} → Finishing wk l t flags n w → wk' ≡ stored wk 0 l (length l) → length wk' ≡ length l
finish-long {wk} {l} z k = rw k (length-stored wk 0 l (length l)) ∙ z.same

pub finish-noting : {wk l t : List ℕ} {flags : List Bool} {n w : ℕ} {wk' : List ℕ} → Finishing wk l t flags n w → length wk' ≡ length l → Noting wk' t n w
finish-noting z e = record { sized = sized-after e z.numbers.marked.sized; notes = z.notes }

pub finish-done : (wk l t : List ℕ) (n w : ℕ) {r : Numbers} {wk' t' : List ℕ} → length wk ≡ length l → r ≡ numbers_of l n w → wk' ≡ stored wk 0 l (length l)
    → t' ≡ notes_over wk' (length t) n w r → store wk' l t' ≡ finished l (length t) n w
unfolding finished recovered_notes notes_over
finish-done wk l t n w long e k b =
    let copy : stored wk 0 l (length l) ≡ l = ap (stored wk 0 l) (sym long) ∙ stored-whole wk l (sym long) in
    rw (b, k, copy, e)

-- ---- the notes of the last call
module _ {l t : List ℕ} {n w : ℕ} (z : Noting l t n w) where
  pub noting-room : ThreadRoom (length t) n
  noting-room = record { slots-hi = z.sized.sizes.slots-hi; room = omega (arith, (threads-some (length t) n z.notes).lo) }

  pub noting-slots : n < 2 ^ 32
  noting-slots = omega (arith, z.sized.sizes.slots-hi)

  pub noting-blank : {m : ℕ} → m ≡ n → Blanking t m
  noting-blank e = record { some = omega (arith, z.sized.sizes.slots-lo); room = threads-head (length t) n z.notes }

  pub noting-shaped : (m u x : ℕ) {k : ℕ} {t' : List ℕ} → k ≡ threads_of (length t) n → t' ≡ blank (length t) m u x → Shaped l t' (record { n = n; w = w; t = k })
  noting-shaped m u x q b =
      record {
        working = z.sized;
        notes = notes-after {tr = t} (rw b (blank-length (length t) m u x)) (rw q (threads-notes t n w z.sized.sizes.slots-hi z.notes));
      }

pub noting-done : (l t : List ℕ) (n w : ℕ) (next : Numbers) {m k : ℕ} {t' t'' : List ℕ} → m ≡ n → k ≡ threads_of (length t) n → t' ≡ blank (length t) m next.uid next.order
    → t'' ≡ rebuilt (record { n = n; w = w; t = k }) l t' n → t'' ≡ notes_over l (length t) n w next
unfolding notes_over
noting-done l t n w next e q b r = rw (r, b, q, e)

module _ (wk l t : List ℕ) (n w : ℕ) {f : Option ℕ} (fr : f ≡ next_freed l n) where
  pub free_on : {s : ℕ} {h : Header} {l' : List ℕ} → f ≡ Some s → h ≡ free_header → l' ≡ store_line l (header_line s h) → outcome (Ok WentOn) wk l' t ≡ freeing (next_freed l n) (store wk l t) n w
  free_on e q p = rw (← fr, e, p, q)

  pub free-done : {wk' t' : List ℕ} → f ≡ None → store wk' l t' ≡ finished l (length t) n w → outcome (Ok Done) wk' l t' ≡ freeing (next_freed l n) (store wk l t) n w
  unfolding finished
  free-done {wk'} {t'} e p = rw (← fr, e) (ap (λ st. record { reply = Ok Done; store = st }) p)

-- ---- refusals 1 and 2
sizes-both : (b : Bool) → Err BadSizes ≡ refuse b BadSizes (Err BadSizes)
sizes-both true = refl
sizes-both false = refl

module _ (wl : ℕ) (l : List ℕ) (tl : ℕ) {s : Bool} (sh : s ≡ shape_ok l) where
  pub entry-shape : s ≡ false → Err BadSizes ≡ recover_entry_check wl l tl
  unfolding recover_entry_check head_check
  entry-shape e = rw (← sh, e) (sizes-both (not (lengths_fit wl l tl)))

  pub entry-working : s ≡ true → (wl ≡ length l → ⊥) → Err BadSizes ≡ recover_entry_check wl l tl
  unfolding recover_entry_check lengths_fit
  entry-working t d = rw (ne_eqb wl (length l) d)

  module _ {n : ℕ} {k : Bool} (long : wl ≡ length l) (at : n ≡ slots_of l) (th : k ≡ threads_ok tl n) where
    pub entry-threads : k ≡ false → Err BadSizes ≡ recover_entry_check wl l tl
    unfolding recover_entry_check lengths_fit
    entry-threads e = rw (eq-eqb wl (length l) long, ← at, ← th, e)

    pub entry-head : {r : Check} → k ≡ true → r ≡ head_check l → r ≡ recover_entry_check wl l tl
    unfolding recover_entry_check lengths_fit
    entry-head e h = rw (eq-eqb wl (length l) long, ← at, ← th, e) h

pub entry_first : (l : List ℕ) {s : Bool} → s ≡ shape_ok l → s ≡ true → 0 < length l
entry_first l e t = let z = shaped l (sym e ∙ t) in omega arith

pub entry-slots : (l : List ℕ) {s : Bool} {n : ℕ} → s ≡ shape_ok l → s ≡ true → n ≡ slots_of l → n ≤ most_slots
entry-slots l e t q = let z = shaped l (sym e ∙ t) in omega arith

-- ---- past refusals 1 and 2
entry-passed : (wk l t : List ℕ) {k : Check} → k ≡ recover_entry_check (length wk) l (length t) → k ≡ Ok tt → Judged wk l t (slots_of l) (width_of l)
unfolding recover_entry_check head_check lengths_fit
entry-passed wk l t e a =
    let same = eqb (length wk) (length l) in
    let threads = threads_ok (length t) (slots_of l) in
    let one = not-refused (not (same && threads)) BadSizes (head_check l) (sym e ∙ a) in
    let fit : same && threads ≡ true = not-false (same && threads) one.0 in
    let two = not-refused (not (shape_ok l)) BadSizes (refuse (not (clock_ok (clock_of l))) BadClock (Ok tt)) one.1 in
    record {
      sized = shaped l (not-false (shape_ok l) two.0);
      same = eqb-true (length wk) (length l) (and_left same threads fit);
      notes = and_right same threads fit;
    }

pub judged : (wk l t : List ℕ) {k : Check} {n w : ℕ} → k ≡ recover_entry_check (length wk) l (length t) → k ≡ Ok tt → n ≡ slots_of l → w ≡ width_of l → Judged wk l t n w
judged wk l t e a p q = rw (p, q) (entry-passed wk l t e a)

pub judged-long : (wk l t : List ℕ) (j : ℕ) {k : Check} → k ≡ recover_entry_check (length wk) l (length t) → k ≡ Ok tt → j < 3 → j < length l
judged-long wk l t j e a h = let z = (entry-passed wk l t e a).sized in omega arith

pub judged-sized : {wk l t : List ℕ} {n w : ℕ} → Judged wk l t n w → Sized l n w
judged-sized z = z.sized

-- a survivor has its uid in range
uid-top : {l : List ℕ} {n w i : ℕ} → Sound l n w → i < n → survivor l n i ≡ true → uid_of l i ≤ most_number
unfolding survivor
uid-top {l} {n} {w} {i} s h v =
    (filled-proper (clock_of l) (header l i) (payload-filled (header l i) (and_left (is_payload (header l i)) _ v)) (s.all-proper i h)).uid-hi

-- an entry that survives has its order number in range
order-top : {l : List ℕ} {n w i : ℕ} → Sound l n w → i < n → survives_on l n queue_board i ≡ true → key_at l n w i ≤ most_number
unfolding nameless survives_on
order-top {l} {n} {w} {i} s h v =
    let live = survivor l n i in
    let on = eqb-true (header l i).board queue_board (and_right live _ v) in
    let good : misnamed (name_at l n w i) ≡ false = rw (and_left live _ v) at (s.named i h) in
    let named = rw (name-is l n w i) at (misnamed-false (name_at l n w i) good) in
    named.top on

pub judged-finishing : {wk l t : List ℕ} {flags : List Bool} {n w : ℕ} {k : Check} → Judged wk l t n w → Checked l n w k flags → k ≡ Ok tt
    → Finishing wk l t flags n w
judged-finishing {wk} {l} {t} {flags} {n} {w} z c a =
    let s : Sound l n w = sound l n w (sym c.same ∙ a) in
    let m : Marked l n flags = c.marked a in
    record {
      numbers = record {
        marked = sized-marked z.sized m;
        uids = λ i h v. uid-top s h v;
        orders = λ i h v. order-top s h v;
      };
      same = z.same;
      notes = z.notes;
    }

module _ (wk l t : List ℕ) (n w : ℕ) {k : Check} (c : k ≡ slots_check l n w) where
  pub step-declines : {r : Refusal} → k ≡ Err r → outcome (Err r) wk l t ≡ recover_sized (store wk l t) n w
  unfolding recover_sized
  step-declines a = rw (← c, a)

  pub step-goes : {r : Outcome (Result Recovery Refusal)} → k ≡ Ok tt → r ≡ freeing (next_freed l n) (store wk l t) n w → r ≡ recover_sized (store wk l t) n w
  unfolding recover_sized
  step-goes a h = rw (← c, a) h

-- refusals 1 and 2, then 3 and 4
recover-is : (wk l t : List ℕ) → recover_check (store wk l t) ≡ by_check (recover_entry_check (length wk) l (length t)) Err (slots_check l (slots_of l) (width_of l))
unfolding recover_check recover_entry_check
recover-is wk l t =
    ⊎_elim
    (λ (y : lengths_fit (length wk) l (length t) ≡ true). rw y (image-is l))
    (λ (f : lengths_fit (length wk) l (length t) ≡ false). rw f)
    (cases (lengths_fit (length wk) l (length t)))

module _ (wk l t : List ℕ) {k : Check} (c : k ≡ recover_entry_check (length wk) l (length t)) where
  pub recover-declines : {r : Refusal} → k ≡ Err r → outcome (Err r) wk l t ≡ recover (store wk l t)
  unfolding recover
  recover-declines a = rw (recover-is wk l t, ← c, a)

  pub recover-goes : (n w : ℕ) {r : Outcome (Result Recovery Refusal)} → k ≡ Ok tt → n ≡ slots_of l → w ≡ width_of l → r ≡ recover_sized (store wk l t) n w → r ≡ recover (store wk l t)
  unfolding recover recover_sized
  recover-goes n w a p q h = rw (recover-is wk l t, ← c, a, ← p, ← q) h

-- the walk for what is freed next
pub ruleset frees = (flag_at, flag-of, headers-header_of, freeing-start, freeing-survives, freeing-stale, freeing-on, freeing-end)

pub ruleset steps = (tests, firsts, marks, flag_at, flag-header, flag-of, anti-is, dies-not, dies-yes, stale-survives, stale-blank, stale-anti, stale-yes, anti-before, anti-here, anti-none, raise-miss, raise-most, order-miss, order-job, order-most, order-name, numbering_start, numbering-next, uid-fits, order-fits, numbers-are, numbered-slot, numbered-flag, finish-marked, finish-header, finish-long, finish-noting, finish-done, noting-room, noting-slots, noting-blank, noting-shaped, noting-done, free_on, free-done, entry-shape, entry-working, entry-threads, entry-head, entry_first, entry-slots, judged, judged-long, judged-sized, flags-new, checked-same, judged-finishing, step-declines, step-goes, recover-declines, recover-goes)
