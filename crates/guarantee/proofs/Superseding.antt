-- A later version takes a free slot and the old one is retired: the two slots that change.
use Rattle.std.specs.Prelude.{ℕ, ◌+◌, ◌≤◌, ◌<◌, ◌≡◌, refl, true, ◌≢◌, List, [], ◌∷◌, ◌++◌, length, Option, Some, None}
use Rattle.std.proofs.Common.{sym, ◌∙◌, arith}
use Rattle.search.specs.Bools.{flag}
use Rattle.reply.specs.declared.Refusal.TheVariants.{Full}
use Rattle.image.specs.declared.header.Header.{Header}
use Rattle.image.specs.Layout.{is_filled, header_of, header}
use Rattle.image.specs.declared.name.Name.{Name}
use Rattle.image.specs.Name.{name_of, names-meet, key-same}
use Rattle.transient.specs.declared.sizes.Sizes.{Sizes}
use Rattle.transient.specs.Layout.{note, last_at, next_uid_at, next_order_at, open_epoch, is_waiting, set_retired}
use Rattle.transient.specs.Store.{Store, store, table}
use Rattle.transient.specs.Requires.{Notes, notes-after}
use Rattle.transient.specs.Laws.{HeadKept, head-then, retired-front, retired-same, retired-waiting, retired-aside, retired-index}
use Rattle.table.specs.Find.{free_at, room}
use Rattle.table.specs.Fill.{filled_slot, taken}
use Rattle.jobs.specs.Job.{superseded}
use Rattle.crash.specs.Table.{Put2}
use Rattle.crash.specs.Reference.{Jobs}
use Rattle.crash.specs.Slots.{Value, Slot, State, Inv}
use Rattle.crash.specs.Steps.{entry, filled, retiring, after, Successor, updates, removes, Current, Joins}
use Rattle.crash.proofs.Over.{over-inv}
use Rattle.guarantee.specs.Trace.{Plain, plain}
use Rattle.guarantee.specs.View.{entry_of, slot_of, view, view_in, view-put2}
use Rattle.guarantee.proofs.Good.{Good}
use Rattle.guarantee.specs.Notes.{Joined, taken-joins}
use Rattle.guarantee.proofs.Images.{Wrote, wrote-image, filled-wrote}
use Rattle.guarantee.proofs.Frame.{good-shaped, operation-of, change-joins, good-change, Owes, fifo-after, row-epoch}
use Rattle.guarantee.proofs.Indexing.{later-filled, kept-indexed, took}
use Rattle.guarantee.proofs.Lookups.{Lives, lives-called, room_says, free-says}
use Rattle.guarantee.proofs.Changing.{Fine, fine-refused}

module _ {sz : Sizes} {start : Jobs} {st : Store} {p : Plain} (g : Good sz start st p)
    {wk' tr' : List ℕ} {e f s u x : ℕ} {h : Header} {words : List ℕ} (a : Wrote st.working wk' sz f h words) (j : Joined sz st.transient tr' e f 0 u x)
    (k : f < sz.n) (i : s < sz.n) (apart : f ≢ s) where
  abbrev nd : Store
  nd = store wk' st.persistent (set_retired sz tr' s e)

  abbrev c : ℕ
  c = p.clock

  notes' : Notes tr' sz
  notes' = notes-after j.head.long g.notes

  first : slot_of nd sz c f ≡ record { working = entry_of h words; persistent = (view st sz c f).persistent; retired = 0; now = flag (is_waiting tr' c f); before = flag (is_waiting tr' (c + 1) f) }
  first =
      let o = retired-aside notes' s e f k apart in
      rw (view_in st sz c f k, a.header-here, a.line-here, o.retired, j.retired, o.waiting c, o.waiting (c + 1))

  second : slot_of nd sz c s ≡ retiring e (view st sz c s)
  second =
      let d : s ≢ f = λ q. apart (sym q) in
      let o = j.others s i d in
      rw (
        view_in st sz c s i,
        a.header-there s i d,
        a.line-there s i d,
        retired-same notes' s e i,
        retired-waiting notes' s e c s i,
        retired-waiting notes' s e (c + 1) s i,
        o.waiting c,
        o.waiting (c + 1),
      )

  rest : (m : ℕ) → m < sz.n → m ≢ f → m ≢ s → slot_of nd sz c m ≡ slot_of st sz c m
  rest m b d q =
      let x = retired-aside notes' s e m b q in
      let o = j.others m b d in
      rw (
        a.header-there m b d,
        a.line-there m b d,
        x.retired,
        o.retired,
        x.waiting c,
        x.waiting (c + 1),
        o.waiting c,
        o.waiting (c + 1),
      )

  pub over-put : Put2 (view st sz c) (view nd sz c) f
      (record { working = entry_of h words; persistent = (view st sz c f).persistent; retired = 0; now = flag (is_waiting tr' c f); before = flag (is_waiting tr' (c + 1) f) })
      s (retiring e (view st sz c s))
  over-put = view-put2 st nd sz c f s _ _ k i apart first second rest

  pub over-head : HeadKept sz st.transient (set_retired sz tr' s e)
  over-head = head-then j.head (retired-front tr' sz s e).head

  pub over-uid : note next_uid_at (set_retired sz tr' s e) ≡ u
  over-uid = (retired-front tr' sz s e).uid ∙ j.uid

  pub over-order : note next_order_at (set_retired sz tr' s e) ≡ x
  over-order = (retired-front tr' sz s e).order ∙ j.order

-- the step with the uid and the name as the call has them, and the name as the slot has it
over-as : {kind e s r : ℕ} {v : Value} {u : Option Value} {now before : ℕ} {st : State} {f : ℕ → Slot} {uid : ℕ} {k k' : Name} → Inv st
    → uid ≡ (st.slots r).working.uid → k ≡ (st.slots r).working.name → k' ≡ (st.slots r).working.name → Successor kind v u → Current e r st → Joins st.clock e now before (st.slots s)
    → (st.slots s).working.kind ≡ 0 → (st.slots r).working.epoch < e
    → Put2 st.slots f s (filled (entry kind e uid k' v) now before (st.slots s)) r (retiring e (st.slots r))
    → Inv (after st f st.uid st.order e k u)
over-as i a b d o c j free older put = rw b (over-inv i record { outcome = o; of = c; joins = j; free = free; older = older; put = rw (a, d) at put })

-- an UPDATE or a DELETE
successor-lo : {kind : ℕ} {v : Value} {u : Option Value} → Successor kind v u → 1 ≤ kind
successor-lo (updates v) = omega arith
successor-lo (removes v) = omega arith

successor-hi : {kind : ℕ} {v : Value} {u : Option Value} → Successor kind v u → kind ≤ 3
successor-hi (updates v) = omega arith
successor-hi (removes v) = omega arith

-- ---- set by a new UPDATE, delete by a new DELETE
module _ {sz : Sizes} {start : Jobs} {wk l tr : List ℕ} {p : Plain} {kind : ℕ} {v : Value} {u : Option Value} (thread : ℕ) (name : Name) (s : ℕ) (o : Successor kind v u)
    (g : Good sz start (store wk l tr) p) (within : thread < sz.t) (begun : open_epoch tr thread ≢ 0) (words : length v + 1 ≡ sz.w)
    (lives : Lives g name s) (older : (header wk s).epoch < open_epoch tr thread) (owes : Owes g (open_epoch tr thread) name u) where
  abbrev e : ℕ
  e = open_epoch tr thread

  abbrev old : Slot
  old = view (store wk l tr) sz p.clock s

  at_slot : old ≡ slot_of (store wk l tr) sz p.clock s
  at_slot = view_in (store wk l tr) sz p.clock s lives.below

  super-at : (f : ℕ) → f < sz.n → free_at wk f ≡ true
      → Good sz start (store (filled_slot sz wk f (header_of kind e (header wk s).uid (header wk s).board) (name.key ∷ v)) l
      (set_retired sz (taken sz tr e f (name_of (header wk s).board name.key)) s e))
      (plain p.clock p.operation (p.row ++ (record { epoch = p.operation thread; name = name; value = u } ∷ [])) p.ended p.durable)
  super-at f h free =
      let a = filled-wrote g.working.sized h (header_of kind e (header wk s).uid (header wk s).board) (name.key ∷ v) (omega (arith, words)) in
      let j = taken-joins g.notes e f (name_of (header wk s).board name.key) h in
      let op = operation-of g thread within begun in
      let new : is_filled (header_of kind e (header wk s).uid (header wk s).board) ≡ true =
      later-filled (header wk s) (successor-lo o) (successor-hi o) (omega (arith, op.epoch-least)) (lives-called g lives).filled in
      let empty = free-says g h free in
      let pay = lives.payload in
      let apart : f ≢ s = λ q. let z = rw q at empty in omega arith in
      let uid-is : (header wk s).uid ≡ old.working.uid = rw at_slot in
      let epoch-is : (header wk s).epoch ≡ old.working.epoch = rw at_slot in
      let board-is : (header wk s).board ≡ old.working.name.board = rw at_slot in
      good-change g (wrote-image a g.working) (over-head g a j h lives.below apart) (over-uid g a j h lives.below apart) (over-order g a j h lives.below apart)
      (kept-indexed (retired-index (taken sz tr e f (name_of (header wk s).board name.key)) sz s e lives.below)
      (took (good-shaped g) g.index e f (header_of kind e (header wk s).uid (header wk s).board) name.key v h free new words))
      (row-epoch g thread name u within) (fifo-after g e name u owes)
      (over-as g.inv uid-is (sym lives.named) (names-meet board-is (key-same (sym lives.named))) o (record { operation = op; payload = lives.payload; current = lives.current })
      (change-joins g a j h) empty (omega (arith, epoch-is, older)) (over-put g a j h lives.below apart))

  pub super-fine : (k : ℕ) → note last_at tr < sz.n
      → Fine sz start l p thread name u (superseded (room sz (table wk tr) k) sz (table wk tr) e s (header_of kind e (header wk s).uid (header wk s).board) name.key v)
  super-fine k h = go (room sz (table wk tr) k) refl
    where
      go : (f : Option ℕ) → room sz (table wk tr) k ≡ f → Fine sz start l p thread name u (superseded f sz (table wk tr) e s (header_of kind e (header wk s).uid (header wk s).board) name.key v)
      go (Some f) q = let b = room_says sz (table wk tr) k f h q in record { good = super-at f b.0 b.1 }
      go None q = fine-refused g Full
