-- An operation of epoch e writes an entry of the job k into slot s.
use Rattle.std.specs.Prelude.{ℕ, ◌+◌, ◌≤◌, ◌<◌, ◌≡◌, ◌≢◌, ◌⊎◌, ◌↔◌, Option, None, Some}
use Rattle.std.proofs.Common.{ap, sym, ◌∙◌, inl, inr, arith}
use Rattle.image.specs.Layout.{queue_board}
use Rattle.image.specs.declared.name.Name.{Name}
use Rattle.image.specs.Name.{Named}
use Rattle.crash.specs.Table.{Put, Any, every-put, pairwise-put, any-new, any-keep, any-case}
use Rattle.crash.proofs.Laws.{late-snoc, shown-step}
use Rattle.crash.specs.Slots.{Value, Entry, Slot, State, Filled, Payload, Proper, Visible, Sees, Shows, One, Underway, Kin, Two, Next, Inv}
use Rattle.crash.specs.Steps.{after, Operation, Joins}
use Rattle.crash.proofs.OneSlot.{slotty, proper-filled}

-- free, or of this epoch and job
pub record Own (e : ℕ) (k : Name) (x : Entry) : Type 0 where
  pub epoch-is : Filled x → x.epoch ≡ e
  pub name-is : Filled x → x.name ≡ k

pub own-epoch : {e c : ℕ} {k : Name} {x : Entry} → Own e k x → Proper c x → 1 ≤ x.epoch → x.epoch ≡ e
own-epoch o p h = o.epoch-is (proper-filled p h)

-- such an entry shows no other job, and nothing before e
pub own-unseen : {e : ℕ} {k : Name} {a : Slot} {d : ℕ} {j : Name} {w : Value} → Own e k a.working → (d < e) ⊎ (j ≢ k) → ¬ Sees d j w a
own-unseen o (inl l) h = omega (arith, o.epoch-is h.visible.payload.0)
own-unseen o (inr l) h = l (sym h.name-is ∙ o.name-is h.visible.payload.0)

-- what the row has is what the entry shows: its value, or nothing
pub data Tells (v : Option Value) (x : Entry) : Type 0 where
  tells-value : Payload x → v ≡ Some x.value → Tells v x
  tells-nothing : ¬ Payload x → v ≡ None → Tells v x

-- the slot after the write; `filled` and `rewritten` compute to it
abbrev pub written : Entry → ℕ → ℕ → ℕ → Slot → Slot
written x retired now before a = record { working = x; persistent = a.persistent; retired = retired; now = now; before = before }

-- the entry x takes the place of a free one, or of one of the same epoch and job; `uid` and `order` are the next uid and the next
-- order number after it
pub record Write (e s uid order : ℕ) (k : Name) (v : Option Value) (x : Entry) (retired now before : ℕ) (st : State) : Type 0 where
  pub operation : Operation e st
  pub joins : Joins st.clock e now before (st.slots s)
  pub was : Own e k (st.slots s).working
  pub own : Own e k x
  pub proper : Proper st.clock x
  pub named : Named k
  pub uid-below : x.uid < uid
  pub order_below : Filled x → x.name.board ≡ queue_board → x.name.key < order
  pub not-retired : retired ≡ 0
  pub tells : Tells v x

-- of one uid, b is the newer version
abbrev pub Newer : Slot → Slot → Type 0
Newer b a = Filled a.working → Filled b.working → a.working.uid ≡ b.working.uid → Kin a b

-- where a gave way to the version in `old`, it now gave way to that in `new`
abbrev pub Heir : Slot → Slot → Slot → Type 0
Heir old new a = 1 ≤ a.retired → Next a.working.uid a.retired old → Next a.working.uid a.retired new

-- the slot b, written in e for the job k, is newer than a, and a does not show the job from then on
pub record Behind (e : ℕ) (k : Name) (b a : Slot) : Type 0 where
  pub newer : Newer b a
  pub lone : (d : ℕ) → e ≤ d → Visible d a → a.working.name ≢ k

-- the next uid and the next order number may go up
one_up : {c u u' o o' : ℕ} {a : Slot} → u ≤ u' → o ≤ o' → One c u o a → One c u' o' a
one_up {o' = o'} {a = a} h k w =
    let below : Filled a.working → a.working.name.board ≡ queue_board → a.working.name.key < o' = λ f b. omega (arith, w.order_below f b) in
    search arith

module _ {e s uid order : ℕ} {k : Name} {v : Option Value} {x : Entry} {retired now before : ℕ} {st : State} (i : Inv st)
    (t : Write e s uid order k v x retired now before st) where
  abbrev old : Slot
  old = st.slots s

  abbrev new : Slot
  new = written x retired now before old

  -- an entry of the epoch below the clock is of an operation of that epoch
  own-before : {y : Entry} → Own e k y → Proper st.clock y → y.epoch + 1 ≡ st.clock → e + 1 ≡ st.clock
  own-before o p h = omega (arith, own-epoch o p (omega arith))

  -- the lines of one slot: neither the new entry nor the old one is settled
  pub write-one : One st.clock uid order new
  write-one =
      let w = i.one s in record {
        proper = t.proper;
        uid-below = t.uid-below;
        order_below = t.order_below;
        named = λ h. rw (t.own.name-is h) t.named;
        retired-hi = omega arith;
        retired-lo = λ h. omega arith;
        retired-of = λ h. absurd (omega arith);
        anti-lo = λ h. omega (arith, t.own.epoch-is (omega arith));
        settled-head = λ h l. absurd (omega (arith, t.own.epoch-is h));
        settled-line = λ h l. absurd (omega (arith, t.own.epoch-is h));
        copied = λ h l. let q = w.copied h l in absurd (omega (arith, own-epoch t.was w.proper (omega arith)));
        waits = record {
          in-now = λ h. t.joins.joins-now (omega (arith, own-epoch t.own t.proper (omega arith)));
          in-before = λ h. t.joins.joins-before (own-before t.own t.proper h);
        };
        stray = record { in-now = λ h. omega (arith, w.stray.in-now h); in-before = λ h. omega (arith, w.stray.in-before h) };
        worded = w.worded;
      }

  -- .. by its number: an operation of c - 1 finds no write-back underway
  pub write-underway : Underway st.clock st.place s new
  write-underway = record {
    swept = λ h. record { retired = λ l. omega arith; anti = λ q. omega (arith, t.own.epoch-is (omega arith)) };
    flushed = λ h. record {
      head = λ q. absurd (omega (arith, t.operation.quiet-flushed (own-before t.own t.proper q)));
      line = λ q. absurd (omega (arith, t.operation.quiet-flushed (own-before t.own t.proper q)));
      stray = λ q. let w = ((i.underway s).flushed h).stray q in absurd (omega (arith, t.operation.quiet-flushed (own-before t.was (i.one s).proper (omega arith))));
    };
    half = λ h l q. absurd (omega (arith, t.operation.quiet-half (own-before t.own t.proper q)));
  }

  -- from e on the slot shows what the row has
  pub write-tells : (d : ℕ) → e ≤ d → (w : Value) → Sees d k w new ↔ (v ≡ Some w)
  write-tells d l w = elim t.tells [
    | tells-value p a ↦ (
      λ q. a ∙ ap Some q.value-is,
      λ q. record { visible = omega (slotty, t.own.epoch-is p.0); name-is = t.own.name-is p.0; value-is = cc },
    )
    | tells-nothing p b ↦ (λ q. absurd (p q.visible.payload), λ q. let z : ◌≡◌ {A = ℕ} 0 1 = cc in absurd (omega arith))
  ]

  -- the lines of two slots
  pub write_two : (a : Slot) → Behind e k new a → Two new a × Two a new
  write_two a b = (
    record {
      kin = λ p q u l. absurd (omega (arith, b.newer q p (sym u)));
      disjoint = λ d p q h. b.lone d (omega (arith, t.own.epoch-is p.payload.0)) q (sym h ∙ t.own.name-is p.payload.0);
    },
    record {
      kin = λ p q u l. b.newer p q u;
      disjoint = λ d p q h. b.lone d (omega (arith, t.own.epoch-is q.payload.0)) p (h ∙ t.own.name-is q.payload.0);
    },
  )

  -- a write of this one slot keeps the invariant
  module _ {g : ℕ → Slot} (put : Put st.slots g s new) (behind : (m : ℕ) → m ≢ s → Behind e k new (st.slots m)) where
    -- other jobs, and all before e, are shown as they were
    quiet : (d : ℕ) (j : Name) (w : Value) → (d < e) ⊎ (j ≢ k) → Shows st.slots d j w ↔ Shows g d j w
    quiet d j w h = (
      any-keep put (λ q. absurd (own-unseen t.was h q)),
      any-case put (λ q. absurd (own-unseen t.own h q)) (λ m _ q. record { at = m; holds = q }),
    )

    -- from e on the job is shown as the row has it
    loud : (d : ℕ) → e ≤ d → (w : Value) → Shows g d k w ↔ (v ≡ Some w)
    loud d l w = (
      any-case put (write-tells d l w).0 (λ m h q. absurd ((behind m h).lone d l q.visible q.name-is)),
      λ q. any-new put ((write-tells d l w).1 q),
    )

    pub write-inv : st.uid ≤ uid → st.order ≤ order → ((m : ℕ) → m ≢ s → Heir old new (st.slots m)) → Inv (after st g uid order e k v)
    write-inv uids orders heir = record {
      clock-lo = i.clock-lo;
      uid-lo = omega (arith, i.uid-lo);
      one = every-put put (λ s. One st.clock uid order) write-one (λ m _. one_up uids orders (i.one m));
      two = pairwise-put put Two (λ m h. write_two (st.slots m) (behind m h)) i.two;
      next = every-put put (λ s a. 1 ≤ a.retired → Any (Next a.working.uid a.retired) g) (λ h. absurd (omega arith))
          (λ m q h. any-keep put (λ w. any-new put (heir m q h w)) (i.next m h));
      underway = every-put put (Underway st.clock st.place) write-underway (λ m _. i.underway m);
      late = late-snoc st.clock st.row _ t.operation.epoch-hi i.late;
      shown = λ d lo hi. shown-step (Shows st.slots d) (Shows g d) st.start st.row _ d (i.shown d lo hi) (quiet d) (loud d);
    }
