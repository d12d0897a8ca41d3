-- A cut within a store: what it leaves is an image of a good store, or one in which a header counts as free that the store makes zeros.
use Rattle.std.specs.Prelude.{ℕ, ◌<◌, ◌≡◌, refl, ◌≢◌, ◌⊎◌}
use Rattle.std.proofs.Common.{sym, ap, ◌∙◌, inl, inr, ⊎_elim, eq-eqb, ne_eqb, arith}
use mathlib.Core.List.{List, ◌∷◌, Memᴰ}
use Rattle.image.specs.Layout.{slots_of, clock_of, header, free_header}
use Rattle.image.specs.Line.{header_line, store_line}
use Rattle.image.specs.Whole.{free-zero}
use Rattle.image.specs.Requires.{header-fits}
use Rattle.image.specs.Laws.{header-same}
use Rattle.image.specs.Torn.{Torn, From, torn-same, torn-wider, torn-clock, Remains, torn-freed, header-from, contents-from, word-from}
use Rattle.transient.specs.declared.sizes.Sizes.{Sizes}
use Rattle.transient.specs.Store.{Store}
use Rattle.recovery.specs.Steps.{zero-spent, free-keeps, free-accepted}
use Rattle.crash.specs.Reference.{Jobs}
use Rattle.guarantee.specs.Trace.{Call, Moment, moments, Around, at, within, later, beside}
use Rattle.guarantee.specs.Promise.{jobs_of, Started}
use Rattle.guarantee.proofs.Good.{Good, start_of}
use Rattle.guarantee.proofs.JobsOf.{same-jobs}
use Rattle.guarantee.proofs.Cutting.{Cuts, good-cuts}
use Rattle.guarantee.proofs.Copying.{torn-good}
use Rattle.guarantee.proofs.Stores.{OneStore, nothing, head, line, word, zeros, ticked, Chain, stays, goes, run-chained}
use Rattle.guarantee.proofs.Running.{moments-good}

-- ---- the plain board beside the image
module _ {start : Jobs} {l : List ℕ} (m x : Moment) where
  beside-new : Cuts start l x.plain → Cuts start l (beside l m x)
  beside-new c = rw (eq-eqb (clock_of l) x.plain.clock c.clock) c

  beside-old : m.plain.clock ≢ x.plain.clock → Cuts start l m.plain → Cuts start l (beside l m x)
  beside-old d c = rw (ne_eqb (clock_of l) x.plain.clock (λ q. d (sym c.clock ∙ q))) c

-- ---- a store that a cut falls into, from one good moment to another
module _ {sz : Sizes} {start : Jobs} {m x : Moment} (g : Good sz start m.store m.plain) (h : Good sz start x.store x.plain) {l : List ℕ}
    (t : Torn m.store.persistent x.store.persistent l) where
  -- words go from working to persistent
  copies : From m.store.working m.store.persistent x.store.persistent → x.plain ≡ m.plain → Cuts start l (beside l m x)
  copies f q = beside-new m x (rw q (good-cuts (torn-good g (torn-wider t f))))

  -- nothing was stored yet
  as_before : l ≡ m.store.persistent → Cuts start l m.plain
  as_before e = rw e (good-cuts g)

  -- all was
  as-after : l ≡ x.store.persistent → Cuts start l x.plain
  as-after e = rw e (good-cuts h)

  -- some words of a header are zeros: it counts as free, as that of zeros does
  part-freed : (s : ℕ) → s < sz.n → x.store.persistent ≡ store_line m.store.persistent (header_line s free_header) → Remains m.store.persistent s l
      → Cuts start l x.plain
  part-freed s b e r =
      let c = good-cuts h in
      let l' = x.store.persistent in
      let is : l ≡ store_line l' (header_line s (header l s)) = rw e r.again in
      let free : header l' s ≡ free_header = rw e (header-same free_header (header-fits g.persistent.sized b)) in
      let p = zero-spent l' (slots_of l') s (omega (arith, h.persistent.slots-is)) (rw free free-zero) in
      let same = rw (← is) at (free-keeps l' s (header l s) r.zero c.accepted p) in
      record {
        accepted = rw (← is) at (free-accepted l' s (header l s) r.zero c.accepted p);
        clock = same.clock ∙ c.clock;
        jobs = λ k. same-jobs same k ∙ c.jobs k;
        fifo = c.fifo;
        durable = c.durable;
      }

  torn-step : OneStore m x → Cuts start l (beside l m x)
  torn-step (nothing e) = beside-new m x (as-after (torn-same (rw e at t) ∙ sym e))
  torn-step (head s e q) = copies (rw e (header-from m.store.working m.store.persistent s)) q
  torn-step (line n w s e q) = copies (rw e (contents-from m.store.working m.store.persistent n w s)) q
  torn-step (word i e q) = copies (rw e (word-from m.store.working m.store.persistent i)) q
  torn-step (zeros s b e q) =
      let k : s < sz.n = omega (arith, g.working.slots-is) in
      beside-new m x
      (⊎_elim (λ (p : l ≡ m.store.persistent). rw q (as_before p)) (part-freed s k e)
      (torn-freed (header-fits g.persistent.sized k) (rw e at t)))
  torn-step (ticked c e q) =
      ⊎_elim
      (λ (p : l ≡ m.store.persistent). beside-old m x (λ d. omega (arith, q, d)) (as_before p))
      (λ p. beside-new m x (as-after (p ∙ sym e)))
      (torn-clock c (rw e at t))

-- ---- the moments around a cut
around-cases : {m a b y : Moment} {xs : List Moment} → Chain m xs y → Around (m ∷ xs) a b → (b ≡ a) ⊎ OneStore a b
around-cases stays at = inl refl
around-cases {a = a} {b = b} (stays {m = m}) (later i) = elim i [ ]
around-cases (goes o c) at = inl refl
around-cases (goes o c) within = inr o
around-cases (goes o c) (later i) = around-cases c i

around-first : {a b : Moment} {ms : List Moment} → Around ms a b → Memᴰ a ms
around-first at = Memᴰ.head refl
around-first within = Memᴰ.head refl
around-first (later i) = Memᴰ.tail (around-first i)

around-second : {a b : Moment} {ms : List Moment} → Around ms a b → Memᴰ b ms
around-second at = Memᴰ.head refl
around-second within = Memᴰ.tail (Memᴰ.head refl)
around-second (later i) = Memᴰ.tail (around-second i)

-- ---- of every run
pub torn-cuts : {st : Store} → Started st → (calls : List Call) {before after : Moment} → Around (moments st calls) before after
    → {l : List ℕ} → Torn before.store.persistent after.store.persistent l → Cuts (jobs_of st.persistent) l (beside l before after)
unfolding moments
torn-cuts {st} s calls {before} {after} i {l} t =
    let g = moments-good s calls before (around-first i) in
    let h = moments-good s calls after (around-second i) in
    ⊎_elim
    (λ (e : after ≡ before). beside-new before after (as-after g h t (torn-same (rw (ap (λ (y : Moment). y.store.persistent) e) at t) ∙ ap (λ (y : Moment). y.store.persistent) (sym e))))
    (λ o. torn-step g h t o)
    (around-cases (run-chained calls (start_of st)) i)
