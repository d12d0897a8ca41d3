-- Words of the working side that are copied to the persistent one keep the invariant: any of them, so a line, or what a cut leaves of it.
use Rattle.std.specs.Prelude.{ℕ, ◌≤◌, ◌≡◌, refl, ◌⊎◌}
use Rattle.std.proofs.Common.{◌∙◌, inl, inr, arith}
use Rattle.std.proofs.Math.Logic.Iff.{trans as Iff-trans}
use Rattle.image.specs.Torn.{Mixed}
use Rattle.crash.specs.Table.{Put, every-put}
use Rattle.crash.specs.Slots.{Entry, Slot, State, head_of, SameHead, SameLine, Worded, Waits, One, Underway, Inv}
use Rattle.crash.specs.Steps.{stored, moved, Head, Line}
use Rattle.crash.proofs.OneSlot.{proper-worded, proper-filled}
use Rattle.crash.proofs.Dressed.{Dressed, dressed-two, dressed-next, dressed-shows}

-- x is p with words copied from w: each word of its header is p's or w's, and its contents are theirs where these agree
pub record Copied (x w p : Entry) : Type 0 where
  pub head : Mixed (head_of x) (head_of p) (head_of w)
  pub line : SameLine p w → SameLine x w

either : {x w p : ℕ} → (x ≡ p) ⊎ (x ≡ w) → p ≡ w → x ≡ w
either (inl q) h = q ∙ h
either (inr q) h = q

below : {x w p top : ℕ} → (x ≡ p) ⊎ (x ≡ w) → w ≤ top → p ≤ top → x ≤ top
below (inl q) h k = omega arith
below (inr q) h k = omega arith

module _ {x w p : Entry} (m : Copied x w p) where
  -- where the two headers agree, so does x's
  same_head : SameHead p w → SameHead x w
  same_head h =
      record {
        kind-is = either m.head.kind h.kind-is;
        epoch-is = either m.head.epoch h.epoch-is;
        uid-is = either m.head.uid h.uid-is;
        board-is = either m.head.board h.board-is;
      }

  -- what holds of both epochs holds of x's
  by-epoch : {P : Type 0} → (x.epoch ≡ w.epoch → P) → (x.epoch ≡ p.epoch → P) → P
  by-epoch f g = elim m.head.epoch [ inl q ↦ g q | inr q ↦ f q ]

  worded : {c : ℕ} → Worded c w → Worded c p → Worded c x
  worded a b =
      record {
        kind-hi = below m.head.kind a.kind-hi b.kind-hi;
        epoch-lo = λ h. by-epoch (λ q. omega (arith, a.epoch-lo (omega arith))) (λ q. omega (arith, b.epoch-lo (omega arith)));
        epoch-hi = below m.head.epoch a.epoch-hi b.epoch-hi;
        uid-hi = below m.head.uid a.uid-hi b.uid-hi;
        board-hi = below m.head.board a.board-hi b.board-hi;
      }

  -- where both wait, so does x
  waits : {c : ℕ} {a : Slot} → Waits c w a → Waits c p a → Waits c x a
  waits h k =
      record {
        in-now = λ e. by-epoch (λ q. h.in-now (omega arith)) (λ q. k.in-now (omega arith));
        in-before = λ e. by-epoch (λ q. h.in-before (omega arith)) (λ q. k.in-before (omega arith));
      }

module _ {a : Slot} {x : Entry} (m : Copied x a.working a.persistent) where
  -- what is said of one slot
  one : {c u o : ℕ} → One c u o a → One c u o (stored x a)
  one {c} w =
      let z : Waits c x a = waits m w.waits w.stray in
      record {
        proper = w.proper;
        uid-below = w.uid-below;
        order_below = w.order_below;
        named = w.named;
        retired-hi = w.retired-hi;
        retired-lo = w.retired-lo;
        retired-of = w.retired-of;
        anti-lo = w.anti-lo;
        settled-head = λ f l. same_head m (w.settled-head f l);
        settled-line = λ f l. m.line (w.settled-line f l);
        copied = λ h l. same_head m (by-epoch m
            (λ q. w.settled-head (proper-filled w.proper (omega arith)) (omega arith))
            (λ q. w.copied (omega arith) (omega arith)));
        waits = record { in-now = w.waits.in-now; in-before = w.waits.in-before };
        stray = record { in-now = z.in-now; in-before = z.in-before };
        worded = worded m (proper-worded (record { kind-is = refl; epoch-is = refl; uid-is = refl; board-is = refl }) w.proper) w.worded;
      }

  -- .. and of it while an advance is underway
  underway : {s : ℕ} (st : State) → Underway st.clock st.place s a → Underway st.clock st.place s (stored x a)
  underway st u =
      record {
        swept = λ h. let q = u.swept h in record { retired = q.retired; anti = q.anti };
        flushed = λ h. record {
          head = λ e. same_head m ((u.flushed h).head e);
          line = λ e. m.line ((u.flushed h).line e);
          stray = λ e. same_head m (by-epoch m (λ q. (u.flushed h).head (omega arith)) (λ q. (u.flushed h).stray (omega arith)));
        };
        half = λ a b e. m.line (u.half a b e);
      }

-- a copy of any words keeps the invariant
module _ {st : State} {g : ℕ → Slot} (i : Inv st) (all : (s : ℕ) → g s ≡ stored (g s).persistent (st.slots s))
    (copied : (s : ℕ) → Copied (g s).persistent (st.slots s).working (st.slots s).persistent) where
  -- the working sides stay
  kept : (s : ℕ) → Dressed (st.slots s) (g s)
  kept s = record { entry = (g s).persistent; now = (st.slots s).now; before = (st.slots s).before; is = all s }

  pub copied-inv : Inv (moved st g st.place)
  copied-inv = record {
    clock-lo = i.clock-lo;
    uid-lo = i.uid-lo;
    one = λ s. rw (all s) (one (copied s) (i.one s));
    two = dressed-two kept i.two;
    next = dressed-next kept i.next;
    underway = λ s. rw (all s) (underway (copied s) st (i.underway s));
    late = i.late;
    shown = λ e lo hi k v. Iff-trans (dressed-shows kept e k v) (i.shown e lo hi k v);
  }

-- .. into one slot
put_inv : {s : ℕ} {x : Entry} {st : State} {g : ℕ → Slot} → Inv st → Put st.slots g s (stored x (st.slots s))
    → Copied x (st.slots s).working (st.slots s).persistent → Inv (moved st g st.place)
put_inv {s} {x} {st} {g} i put c =
    copied-inv i (every-put put (λ m a. a ≡ stored a.persistent (st.slots m)) refl (λ m _. refl))
    (every-put put (λ m a. Copied a.persistent (st.slots m).working (st.slots m).persistent) c
    (λ m _. record { head = record { kind = inl refl; epoch = inl refl; uid = inl refl; board = inl refl }; line = λ h. h }))

-- a header
pub head-inv : {s : ℕ} {st : State} {g : ℕ → Slot} → Inv st → Head s st g → Inv (moved st g st.place)
head-inv i t =
    put_inv i t.put
    (record { head = record { kind = inr refl; epoch = inr refl; uid = inr refl; board = inr refl }; line = λ h. record { key-is = h.key-is; value-is = h.value-is } })

-- contents
pub line-inv : {s : ℕ} {st : State} {g : ℕ → Slot} → Inv st → Line s st g → Inv (moved st g st.place)
line-inv i t =
    put_inv i t.put
    (record { head = record { kind = inl refl; epoch = inl refl; uid = inl refl; board = inl refl }; line = λ h. record { key-is = refl; value-is = refl } })
