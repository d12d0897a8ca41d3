-- An accepted image of survivors only, in both places, with notes that say nothing: such a store has the invariant, with an empty
-- row and the image's own jobs.
use Rattle.std.specs.Prelude.{ℕ, ◌+◌, ◌-◌, ◌≤◌, ◌<◌, ◌≡◌, refl, true, false, ◌≢◌, ◌↔◌, List, [], length, leb, Ok}
use Rattle.std.proofs.Common.{sym, ◌∙◌, inl, ⊎_elim, arith}
use Rattle.std.proofs.Math.Logic.Iff.{trans as Iff-trans}
use mathlib.Core.List.Memᴰ
use borrow.Author.Tests.{eq-eqb, ne_eqb, leb-true}
use Rattle.std.proofs.Math.Decide.{dec_lt}
use Rattle.search.specs.Bools.{cases, never, and_left, and_right, and_both}
use Rattle.search.specs.Some.{some_at}
use Rattle.image.specs.Layout.{queue_board, is_blank, has_zero, is_filled, is_payload, header, key_at, contents, value_at, slots_of, width_of, clock_of, free_header}
use Rattle.image.specs.declared.header.Header.{Header}
use Rattle.image.specs.declared.name.Name.{Name}
use Rattle.image.specs.Name.{name_at}
use Rattle.image.specs.Whole.{payload-filled}
use Rattle.image.specs.Laws.{key-contents, name-contents}
use Rattle.transient.specs.declared.sizes.Sizes.{Sizes}
use Rattle.transient.specs.Layout.{threads_of, threads_ok, note, next_uid_at, next_order_at, phase_at, place_at, open_epoch, retired_in, blank}
use Rattle.transient.specs.Store.{Store, store, table_of, sizes_of}
use Rattle.transient.specs.Requires.{Notes}
use Rattle.transient.specs.Laws.{threads-head, blank-length, blank-uid, blank-order, blank-phase, blank-open, blank-retired, blank-index}
use Rattle.index.specs.Indexed.{Indexed, indexed-empty}
use Rattle.survival.specs.Survivors.{kept, survivor, survives_on}
use Rattle.acceptance.specs.Accept.{proper, version_below, image_check}
use Rattle.acceptance.specs.Requires.{same_version}
use Rattle.acceptance.specs.Sound.{Accepts, accepted-says}
use Rattle.recovery.specs.Requires.{sizes_in}
use Rattle.recovery.specs.Steps.{survivor-named, survivors-apart}
use Rattle.crash.specs.Slots.{Value, Slot, Filled, Proper, Shows}
use Rattle.crash.specs.Steps.{at_rest, Survives, Settled, Start}
use Rattle.crash.proofs.Begin.{start-inv}
use Rattle.crash.proofs.Fifo.{fifo-none}
use Rattle.guarantee.specs.Promise.{jobs_of}
use Rattle.guarantee.specs.View.{entry_of, slot_of, no_slot, view, progress, view_in, view_out, working-name, working-value}
use Rattle.guarantee.proofs.Good.{state_of, Image, Good, start_of}
use Rattle.guarantee.specs.Says.{blank-proper, filled-says-proper}
use Rattle.guarantee.specs.Surviving.{survives-at}
use Rattle.guarantee.proofs.JobsOf.{Survivor, jobs-of}

-- the invariant, at the start of a run
abbrev pub Begins : Store → Type 0
Begins st = Good (sizes_of (table_of st)) (jobs_of st.persistent) st (start_of st).plain

-- the notes have nothing open, retired or underway, and their index is the image's
pub record Clean (l tr : List ℕ) : Type 0 where
  pub accepted : image_check l ≡ Ok tt
  pub just : (s : ℕ) → s < slots_of l → is_blank (header l s) ≡ false → survivor l (slots_of l) s ≡ true
  pub uid-lo : 1 ≤ note next_uid_at tr
  pub uids : (s : ℕ) → s < slots_of l → survivor l (slots_of l) s ≡ true → (header l s).uid < note next_uid_at tr
  pub orders : (s : ℕ) → s < slots_of l → survives_on l (slots_of l) queue_board s ≡ true → key_at l (slots_of l) (width_of l) s < note next_order_at tr
  pub threads : threads_ok (length tr) (slots_of l) ≡ true
  pub idle : note phase_at tr ≡ 0
  pub closed : (thread : ℕ) → thread < threads_of (length tr) (slots_of l) → open_epoch tr thread ≡ 0
  pub not-retired : (s : ℕ) → s < slots_of l → retired_in (sizes_in (length tr) (slots_of l) (width_of l)) tr s ≡ 0
  pub index : Indexed (sizes_in (length tr) (slots_of l) (width_of l)) l tr

-- blank notes are such beside an image of free slots
pub blank-clean : (l : List ℕ) (len n u x : ℕ) → image_check l ≡ Ok tt
    → ((s : ℕ) → s < slots_of l → is_blank (header l s) ≡ false → survivor l (slots_of l) s ≡ true)
    → 1 ≤ u → ((s : ℕ) → s < slots_of l → survivor l (slots_of l) s ≡ true → (header l s).uid < u)
    → ((s : ℕ) → s < slots_of l → survives_on l (slots_of l) queue_board s ≡ true → key_at l (slots_of l) (width_of l) s < x)
    → ((s : ℕ) → s < slots_of l → is_filled (header l s) ≡ false)
    → threads_ok len (slots_of l) ≡ true → Clean l (blank len n u x)
blank-clean l len n u x ok just lo uids orders free t =
    let is = blank-uid len n u x (threads-head len (slots_of l) t) in
    let z = sizes_in (length (blank len n u x)) (slots_of l) (width_of l) in
    record {
      accepted = ok;
      just = just;
      uid-lo = rw is lo;
      uids = rw is uids;
      orders = rw (blank-order len n u x (threads-head len (slots_of l) t)) orders;
      threads = rw (blank-length len n u x) t;
      idle = blank-phase len n u x;
      closed = λ thread h. blank-open len n u x thread;
      not-retired = λ s h. blank-retired len n u x z s;
      index = indexed-empty (blank-index len n u x z) free;
    }

-- two kept slots are not of one version
version-once : (l : List ℕ) → image_check l ≡ Ok tt → (s t : ℕ) → s < slots_of l → t < s
    → kept (clock_of l) (header l s) ≡ true → kept (clock_of l) (header l t) ≡ true → (header l t).uid ≡ (header l s).uid → (header l t).epoch ≢ (header l s).epoch
unfolding version_below same_version
version-once l ok s t h b k x u e =
    let c = clock_of l in
    let below = some_at (λ m. same_version c (header l s) (header l m)) s t b (and_both x (and_both (eq-eqb _ _ u) (eq-eqb _ _ e))) in
    never (version_below c (header l) s) (and_both k below) ((accepted-says l ok).sound.versions s h)

-- a survivor is kept
pub survivor-kept : (l : List ℕ) (n s : ℕ) → survivor l n s ≡ true → kept (clock_of l) (header l s) ≡ true
unfolding survivor
survivor-kept l n s v = and_left (kept (clock_of l) (header l s)) _ (and_right (is_payload (header l s)) _ v)

-- a survivor of a board is a survivor
pub on-survives : (l : List ℕ) (n board s : ℕ) → survives_on l n board s ≡ true → survivor l n s ≡ true
unfolding survives_on
on-survives l n board s v = and_left (survivor l n s) _ v

-- .. and so filled
survivor-filled : (l : List ℕ) (n s : ℕ) → survivor l n s ≡ true → is_filled (header l s) ≡ true
unfolding survivor
survivor-filled l n s v = payload-filled (header l s) (and_left (is_payload (header l s)) _ v)

-- what has a kind is not four zeros
kind-not-blank : (h : Header) → 1 ≤ h.kind → is_blank h ≡ false
unfolding is_blank
kind-not-blank h k = rw (ne_eqb h.kind 0 (λ q. omega arith))

pub free-blank : is_blank free_header ≡ true
unfolding is_blank
free-blank = refl

-- a free header is proper
pub free-proper : (c : ℕ) → proper c free_header ≡ true
unfolding proper has_zero
free-proper c = refl

module _ {l tr : List ℕ} (z : Clean l tr) where
  abbrev st : Store
  st = store l l tr

  abbrev sz : Sizes
  sz = record { n = slots_of l; w = width_of l; t = threads_of (length tr) (slots_of l) }

  abbrev n : ℕ
  n = slots_of l

  abbrev w : ℕ
  w = width_of l

  abbrev c : ℕ
  c = clock_of l

  abbrev slots : ℕ → Slot
  slots = view (store l l tr) (record { n = slots_of l; w = width_of l; t = threads_of (length tr) (slots_of l) }) (clock_of l)

  -- what is known of the image, of a slot's header and of its place in the table
  ok : Accepts l
  ok = accepted-says l z.accepted

  proper-at : (s : ℕ) → s < n → Proper c (entry_of (header l s) (contents l n w s))
  proper-at s h =
      ⊎_elim
      (λ (b : is_blank (header l s) ≡ true). blank-proper c (header l s) (contents l n w s) b)
      (λ (b : is_blank (header l s) ≡ false).
      filled-says-proper c (header l s) (contents l n w s) (survivor-filled l n s (z.just s h b)) (ok.sound.all-proper s h))
      (cases (is_blank (header l s)))

  some-width : 1 ≤ w
  some-width = omega (arith, ok.sized.sizes.width-lo)

  is_at : (s : ℕ) → s < n → view st sz c s ≡ slot_of st sz c s
  is_at = view_in st sz c

  wins-at : (s : ℕ) → s < n → survivor l n s ≡ true → Survives (c - 2) slots s
  wins-at = survives-at st sz c (c - 2) (omega (arith, ok.clock-lo)) (λ m h. (proper-at m h).kind-hi)

  name-at : (s : ℕ) → s < n → (slots s).working.name ≡ name_at l n w s
  name-at = working-name st sz c some-width

  value-at : (s : ℕ) → s < n → (slots s).working.value ≡ value_at l n w s
  value-at = working-value st sz c some-width

  -- a slot with something in it survives
  record Lives (s : ℕ) : Type 0 where
    below : s < n
    survives : survivor l n s ≡ true
    wins : Survives (c - 2) slots s

  filled-lives : (s : ℕ) → Filled (slots s).working → Lives s
  filled-lives s f = elim (dec_lt s n) [
    | yes h ↦
        let v = z.just s h (kind-not-blank (header l s) (rw (is_at s h) at f)) in
        record { below = h; survives = v; wins = wins-at s h v }
    | no h ↦ let q : 1 ≤ 0 = rw (view_out st sz c s (omega arith)) at f in absurd (omega arith)
  ]

  -- the bounds of a header: it is free, or it survives
  record Old (s : ℕ) : Type 0 where
    payload : (header l s).kind ≤ 2
    old : (header l s).epoch + 2 ≤ c
    uid-below : (header l s).uid < note next_uid_at tr

  old-at : (s : ℕ) → s < n → Old s
  old-at s h =
      let p = proper-at s h in
      elim (dec_lt 0 (header l s).kind) [
        | yes f ↦
            let v = filled-lives s (rw (is_at s h) f) in
            let x = rw (is_at s h) at v.wins.kept in
            record { payload = rw (is_at s h) at v.wins.payload; old = omega (arith, ok.clock-lo); uid-below = z.uids s h v.survives }
        | no f ↦
            let k : (header l s).kind ≡ 0 = omega arith in
            record { payload = omega arith; old = omega (arith, ok.clock-lo, p.free-epoch k); uid-below = omega (arith, z.uid-lo, p.free-uid k) }
      ]

  -- a survivor of board 2 is an entry that survives
  entry-survives : (s : ℕ) → survivor l n s ≡ true → (header l s).board ≡ queue_board → survives_on l n queue_board s ≡ true
  unfolding survives_on
  entry-survives s v b = and_both v (eq-eqb (header l s).board queue_board b)

  -- each slot of the table is settled, and so is what lies beyond
  settled-in : (s : ℕ) → s < n → Settled c (note next_uid_at tr) (note next_order_at tr) (slot_of st sz c s)
  settled-in s h =
      let o = old-at s h in
      record {
        same_head = record { kind-is = refl; epoch-is = refl; uid-is = refl; board-is = refl };
        same_line = record { key-is = refl; value-is = refl };
        proper = proper-at s h;
        payload = o.payload;
        old = o.old;
        uid-below = o.uid-below;
        order_below = λ f b. rw (key-contents l n w s some-width) at (z.orders s h (entry-survives s (filled-lives s (rw (is_at s h) f)).survives b));
        named = λ f. rw (name-contents l n w s some-width) at (survivor-named l z.accepted s h (filled-lives s (rw (is_at s h) f)).survives);
        not-retired = z.not-retired s h;
      }

  settled-out : Settled c (note next_uid_at tr) (note next_order_at tr) no_slot
  settled-out =
      record {
        same_head = record { kind-is = refl; epoch-is = refl; uid-is = refl; board-is = refl };
        same_line = record { key-is = refl; value-is = refl };
        proper = blank-proper c free_header [] free-blank;
        payload = omega arith;
        old = omega (arith, ok.clock-lo);
        uid-below = omega (arith, z.uid-lo);
        order_below = λ f. absurd (omega arith);
        named = λ f. absurd (omega arith);
        not-retired = refl;
      }

  settled_at : (s : ℕ) → Settled c (note next_uid_at tr) (note next_order_at tr) (slots s)
  settled_at s = elim (dec_lt s n) [
    | yes h ↦ rw (is_at s h) (settled-in s h)
    | no h ↦ rw (view_out st sz c s (omega arith)) settled-out
  ]

  -- two filled slots have two uids ..
  uids-apart : (a b : ℕ) → a ≢ b → Lives a → Lives b → (slots a).working.uid ≢ (slots b).working.uid
  uids-apart a b d x y u =
      let i = is_at a x.below in
      let j = is_at b y.below in
      let p : (header l a).uid ≡ (header l b).uid = rw (i, j) at u in
      let hi : (header l b).epoch ≤ (header l a).epoch = (rw (i, j) at (x.wins.wins b y.wins.kept)) (sym p) in
      let lo : (header l a).epoch ≤ (header l b).epoch = (rw (i, j) at (y.wins.wins a x.wins.kept)) p in
      let ka = survivor-kept l n a x.survives in
      let kb = survivor-kept l n b y.survives in
      elim (dec_lt a b) [
        | yes q ↦ version-once l z.accepted b a y.below q kb ka p (omega arith)
        | no q ↦ version-once l z.accepted a b x.below (omega arith) ka kb (sym p) (omega arith)
      ]

  -- .. and two names
  names_apart : (a b : ℕ) → a ≢ b → Lives a → Lives b → (slots a).working.name ≢ (slots b).working.name
  names_apart a b d x y q =
      survivors-apart l z.accepted a b x.below y.below d x.survives y.survives (sym (name-at a x.below) ∙ q ∙ name-at b y.below)

  -- what is shown at the clock is what survives
  shown : (k : Name) (v : Value) → Shows slots c k v ↔ Survivor l n w k v
  shown k v = (
    λ a. let x = filled-lives a.at a.holds.visible.payload.0 in
        let h = x.below in
        record {
          at = a.at;
          below = h;
          survives = x.survives;
          name-is = sym (name-at a.at h) ∙ a.holds.name-is;
          value-is = sym (value-at a.at h) ∙ a.holds.value-is;
        },
    λ j. let h = j.below in
        let o = old-at j.at h in
        let x = (wins-at j.at h j.survives).kept.whole.kind-lo in
        record {
          at = j.at;
          holds = record {
            visible = rw (is_at j.at h) record {
              payload = (rw (is_at j.at h) at x, o.payload);
              begun = omega arith;
              live = inl (settled-in j.at h).not-retired;
            };
            name-is = name-at j.at h ∙ j.name-is;
            value-is = value-at j.at h ∙ j.value-is;
          };
        },
  )

  -- no advance is underway
  rests : progress sz.n (note phase_at tr) (note place_at tr) ≡ at_rest
  unfolding progress
  rests = rw z.idle

  -- together, a start
  starts : Start (state_of sz (jobs_of l) st (start_of st).plain)
  starts =
      record {
        clock-lo = ok.clock-lo;
        uid-lo = z.uid-lo;
        settled = settled_at;
        apart = λ a b d. record {
          uids = λ f g. uids-apart a b d (filled-lives a f) (filled-lives b g);
          names = λ f g. names_apart a b d (filled-lives a f) (filled-lives b g);
        };
        rest = rests;
        empty = refl;
        jobs = λ k v. Iff-trans (shown k v) (let j = jobs-of k v z.accepted refl refl in (j.1, j.0));
      }

  -- the notes have the length of n slots and t threads
  notes-fit : Notes tr sz
  unfolding threads_ok
  notes-fit =
      let t = threads_of (length tr) n in
      let room = leb-true 1 t (and_left (leb 1 t) _ z.threads) in
      record { long = omega arith; slots-hi = ok.sized.sizes.slots-hi; threads-hi = leb-true t 16 (and_right (leb 1 t) _ z.threads) }

  image-at : Image sz c l
  image-at = record { sized = ok.sized; slots-is = refl; width_is = refl; clock-is = refl }

  -- such a store has the invariant
  clean-here : Good sz (jobs_of l) st (start_of st).plain
  clean-here =
      let i = image-at in
      let none = z.closed in
      record {
        clock-hi = ok.clock-hi;
        working = i;
        persistent = i;
        notes = notes-fit;
        opens = record {
          same = λ u h. none u h;
          least = λ u h q. absurd (omega (arith, none u h));
          low = λ u h q. absurd (omega (arith, none u h));
          high = λ u h. omega (arith, none u h);
          quiet = λ u h q. absurd (omega (arith, none u h, ok.clock-lo));
        };
        past = record { ended-hi = λ e m. absurd (Memᴰ.not-nil m); durable-hi = λ e m. absurd (Memᴰ.not-nil m) };
        index = z.index;
        inv = start-inv starts;
        fifo = λ e. fifo-none e (jobs_of l);
      }

  pub clean-good : Begins (store l l tr)
  unfolding sizes_of
  clean-good = clean-here
