-- What every change call needs and keeps: the operation it belongs to, the slot it writes, and all that it leaves as it was.
use Rattle.std.specs.Prelude.{ℕ, ◌+◌, ◌≤◌, ◌<◌, ◌≡◌, refl, Bool, true, false, ◌≢◌, List, [], ◌∷◌, ◌++◌, eqb, Option, None, Some}
use Rattle.std.proofs.Common.{◌∙◌, le-leb, ne_eqb, arith}
use Rattle.search.specs.Bools.{flag, never, and_both}
use Rattle.image.specs.declared.header.Header.{Header}
use Rattle.image.specs.Layout.{jobs_board, queue_board}
use Rattle.image.specs.declared.name.Name.{Name}
use Rattle.transient.specs.declared.sizes.Sizes.{Sizes}
use Rattle.transient.specs.Store.{Store, store}
use Rattle.transient.specs.Layout.{note, next_uid_at, next_order_at, phase_at, place_at, open_epoch, is_waiting}
use Rattle.transient.specs.Requires.{Shaped, notes-after}
use Rattle.transient.specs.Laws.{HeadKept}
use Rattle.transient.specs.Lists.{waiting-again}
use Rattle.step.specs.Step.{reclaim_next, contents_next, header_next, clock_next}
use Rattle.index.specs.Indexed.{Indexed}
use Rattle.advance.specs.Stages.{underway}
use Rattle.crash.specs.Table.{Put}
use Rattle.crash.specs.Reference.{Jobs, Change, jobs_at, Front, Fifo}
use Rattle.crash.specs.Slots.{Value, Slot, State, Place, Inv}
use Rattle.crash.specs.Steps.{Operation, Joins}
use Rattle.crash.proofs.Fifo.{fifo-snoc}
use Rattle.guarantee.specs.Trace.{Plain, plain}
use Rattle.guarantee.specs.View.{entry_of, slot_of, view, progress, view_in, view-put}
use Rattle.guarantee.proofs.Good.{state_of, Image, Opens, Good}
use Rattle.guarantee.specs.Notes.{Joined}
use Rattle.guarantee.proofs.Images.{Wrote}

-- ---- flags
pub flag_up : (a b : Bool) → (a ≡ true → b ≡ true) → flag a ≤ flag b
flag_up true b h = rw (h refl) (omega arith)
flag_up false b h = omega arith

pub flag-on : {b : Bool} → b ≡ true → 1 ≤ flag b
flag-on h = rw h (omega arith)

pub flag_off : {b : Bool} → b ≡ false → flag b ≡ 0
flag_off h = rw h

-- ---- what is no take owes nothing
pub value-owes : {A : Type 0} {B : Type 0} {v : Value} → A → Some v ≡ None → B
value-owes a e = let z : ◌≡◌ {A = ℕ} 0 1 = cc in absurd (omega arith)

pub job-owes : {B : Type 0} → jobs_board ≡ queue_board → B
job-owes e = absurd (omega arith)

-- ---- no advance underway: nothing is written back yet
pub record Resting (p : Place) : Type 0 where
  pub flushed : p.flushed ≡ 0
  pub half : p.half ≡ 0

pub progress-rest : (n : ℕ) (tr : List ℕ) → underway tr ≡ false → Resting (progress n (note phase_at tr) (note place_at tr))
unfolding underway progress
progress-rest n tr u =
    let k = note phase_at tr in
    let off : (j : ℕ) → reclaim_next ≤ j → j ≤ clock_next → eqb k j ≡ false =
    λ j a b. ne_eqb k j (λ q. never _ (and_both (le-leb reclaim_next k (omega arith)) (le-leb k clock_next (omega arith))) u) in
    let head = off header_next (omega arith) (omega arith) in
    record { flushed = rw (off contents_next (omega arith) (omega arith), head, off clock_next (omega arith) (omega arith)); half = rw head }

-- ---- the open operations and the place stay
pub opens-after : {sz : Sizes} {tr tr' : List ℕ} {p : Plain} → HeadKept sz tr tr' → Opens sz tr p → Opens sz tr' p
unfolding underway
opens-after z o =
    record {
      same = λ u h. z.opens u h ∙ o.same u h;
      least = λ u h. rw (z.opens u h) (o.least u h);
      low = λ u h. rw (z.opens u h) (o.low u h);
      high = λ u h. rw (z.opens u h) (o.high u h);
      quiet = λ u h. rw (z.opens u h, z.phase) (o.quiet u h);
    }

module _ {sz : Sizes} {start : Jobs} {st : Store} {p : Plain} (g : Good sz start st p) where
  -- ---- an image and its notes
  pub good-shaped : Shaped st.working st.transient sz
  good-shaped = record { working = g.working.sized; notes = g.notes }

  -- ---- the operation
  pub operation-of : (thread : ℕ) → thread < sz.t → open_epoch st.transient thread ≢ 0 → Operation (open_epoch st.transient thread) (state_of sz start st p)
  operation-of thread h q =
      let o = g.opens in
      let e : 1 ≤ open_epoch st.transient thread = omega arith in
      record {
        epoch-least = o.least thread h e;
        epoch-lo = o.low thread h e;
        epoch-hi = o.high thread h;
        quiet-flushed = λ z. (progress-rest sz.n st.transient (o.quiet thread h z)).flushed;
        quiet-half = λ z. (progress-rest sz.n st.transient (o.quiet thread h z)).half;
      }

  -- ---- the slot that is written
  module _ {wk' tr' : List ℕ} {e s r u x : ℕ} {h : Header} {line : List ℕ} (a : Wrote st.working wk' sz s h line) (j : Joined sz st.transient tr' e s r u x) (k : s < sz.n) where
    abbrev now : ℕ
    now = flag (is_waiting tr' p.clock s)

    abbrev before : ℕ
    before = flag (is_waiting tr' (p.clock + 1) s)

    here : slot_of (store wk' st.persistent tr') sz p.clock s
        ≡ record { working = entry_of h line; persistent = (view st sz p.clock s).persistent; retired = r; now = now; before = before }
    here = rw (view_in st sz p.clock s k, a.header-here, a.line-here, j.retired)

    there : (m : ℕ) → m < sz.n → m ≢ s → slot_of (store wk' st.persistent tr') sz p.clock m ≡ slot_of st sz p.clock m
    there m b d =
        rw (a.header-there m b d, a.line-there m b d, (j.others m b d).retired, (j.others m b d).waiting p.clock, (j.others m b d).waiting (p.clock + 1))

    pub change-put : Put (view st sz p.clock) (view (store wk' st.persistent tr') sz p.clock) s
        (record { working = entry_of h line; persistent = (view st sz p.clock s).persistent; retired = r; now = now; before = before })
    change-put = view-put st (store wk' st.persistent tr') sz p.clock s _ k here there

    pub change-joins : Joins p.clock e now before (view st sz p.clock s)
    change-joins =
        rw (view_in st sz p.clock s k)
        record {
          now-kept = flag_up (is_waiting st.transient p.clock s) (is_waiting tr' p.clock s) (j.stays p.clock);
          before-kept = flag_up (is_waiting st.transient (p.clock + 1) s) (is_waiting tr' (p.clock + 1) s) (j.stays (p.clock + 1));
          joins-now = λ q. flag-on (rw q at j.joins);
          joins-before = λ q. let y : is_waiting tr' (p.clock + 1) s ≡ true = rw (← q) (waiting-later q) in flag-on y;
        }
      where
        waiting-later : e + 1 ≡ p.clock → is_waiting tr' (e + 1 + 1) s ≡ true
        waiting-later q = let z : e + 1 + 1 ≡ e + 2 = omega arith in rw z (waiting-again tr' e s ∙ j.joins)

  -- ---- all else
  -- the reference map with another row
  abbrev pub with_row : List Change → Plain
  with_row row = plain p.clock p.operation row p.ended p.durable

  -- the state that a change leaves: other slots, a next uid, a next order number, another row
  abbrev pub changed_state : (ℕ → Slot) → ℕ → ℕ → List Change → State
  changed_state f u x row =
      record { slots = f; clock = p.clock; uid = u; order = x; place = progress sz.n (note phase_at st.transient) (note place_at st.transient); start = start; row = row }

  pub good-change : {wk' tr' : List ℕ} {u x : ℕ} {row row' : List Change} → Image sz p.clock wk' → HeadKept sz st.transient tr' → note next_uid_at tr' ≡ u
      → note next_order_at tr' ≡ x → Indexed sz wk' tr' → row' ≡ row → ((e : ℕ) → Fifo e start row)
      → Inv (changed_state (view (store wk' st.persistent tr') sz p.clock) u x row) → Good sz start (store wk' st.persistent tr') (with_row row')
  good-change i z a o d b f v =
      record {
        clock-hi = g.clock-hi;
        working = i;
        persistent = g.persistent;
        notes = notes-after z.long g.notes;
        opens = let o = opens-after z g.opens in record { same = o.same; least = o.least; low = o.low; high = o.high; quiet = o.quiet };
        past = record { ended-hi = g.past.ended-hi; durable-hi = g.past.durable-hi };
        index = d;
        inv = rw (a, o, b, z.phase, z.slot) v;
        fifo = rw b f;
      }

  -- a take owes that it takes the front, at each threshold from its operation's epoch on
  abbrev pub Owes : ℕ → Name → Option Value → Type 0
  Owes e k v = k.board ≡ queue_board → v ≡ None → (d : ℕ) → e ≤ d → Front (jobs_at d start p.row) k.key

  pub fifo-after : (e : ℕ) (k : Name) (v : Option Value) → Owes e k v → (d : ℕ) → Fifo d start (p.row ++ (record { epoch = e; name = k; value = v } ∷ []))
  fifo-after e k v o d = fifo-snoc d start p.row _ (g.fifo d) (λ b n l. o b n d l)

  -- an entry of the row by the operation's epoch in the notes
  pub row-epoch : (thread : ℕ) (k : Name) (v : Option Value) → thread < sz.t
      → p.row ++ (record { epoch = p.operation thread; name = k; value = v } ∷ [])
      ≡ p.row ++ (record { epoch = open_epoch st.transient thread; name = k; value = v } ∷ [])
  row-epoch thread k v h = rw (g.opens.same thread h)
