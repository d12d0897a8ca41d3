-- The ways out of the functions that go along a chain to the next slot with a key.
use Rattle.std.specs.Prelude.{ℕ, zero, suc, ◌+◌, ◌-◌, ◌≤◌, ◌<◌, ◌≡◌, refl, Bool, true, false, List, eqb}
use Rattle.std.proofs.Common.{sym, ◌∙◌, arith}
use Rattle.search.specs.First.{first, Seeking, seeking-start, seeking-next, seeking-hit, seeking-end, Next}
use Rattle.image.specs.Layout.{key_at}
use Rattle.image.specs.declared.name.Name.{Name}
use Rattle.image.specs.Name.{job_name}
use Rattle.image.specs.Requires.{Slot, slot}
use Rattle.transient.specs.declared.sizes.Sizes.{Sizes}
use Rattle.transient.specs.Layout.{bucket_at, link_at}
use Rattle.transient.specs.Store.{Table, table}
use Rattle.transient.specs.Requires.{Shaped}
use Rattle.index.specs.Index.{bucket_of}
use Rattle.index.specs.Requires.{leads_to, Chained}
use Rattle.index.specs.Walk.{first-chain, next-chain}
use Rattle.table.specs.Find.{listed}
use Rattle.table.specs.Requires.{has_key, keyed, OnChain, Keyed}

pub key-is : (z : Sizes) (wk : List ℕ) (key s : ℕ) {k : ℕ} → k ≡ key_at wk z.n z.w s → eqb k key ≡ has_key z wk key s
unfolding has_key
key-is z wk key s e = rw e

-- ---- the chain of a name: its first slot, and the next one
pub shaped-chained : {wk tr : List ℕ} {z : Sizes} → Shaped wk tr z → Chained tr z
shaped-chained y = record { notes = y.notes; some = omega (arith, y.working.sizes.slots-lo) }

module _ (z : Sizes) (tr : List ℕ) (name : Name) where
  first-listed : {t : ℕ} → t ≡ leads_to tr (bucket_at z (bucket_of z.n name)) 0 z.n → Next (listed z tr name) z.n 0 t
  unfolding listed
  first-listed q = first-chain z tr (bucket_of z.n name) z.n q

  next-listed : {s t : ℕ} → listed z tr name s ≡ true → s < z.n → t ≡ leads_to tr (link_at z s) (s + 1) z.n → Next (listed z tr name) z.n (s + 1) t
  unfolding listed
  next-listed e h q = next-chain z tr (bucket_of z.n name) z.n e h q

-- ---- what is not listed does not have the key on the chain
keyed-listed : (z : Sizes) (tb : Table) (key s : ℕ) → listed z tb.transient (job_name key) s ≡ false → keyed z tb key s ≡ false
unfolding keyed
keyed-listed z tb key s f = rw f

keyed-is : (z : Sizes) (tb : Table) (key s : ℕ) {b : Bool} → listed z tb.transient (job_name key) s ≡ true → b ≡ has_key z tb.working key s → b ≡ keyed z tb key s
unfolding keyed
keyed-is z tb key s t e = rw t e

seeking-pass : {p : ℕ → Bool} {n from i : ℕ} (d : ℕ) → Seeking p n from i → i + d ≤ n → ((j : ℕ) → i ≤ j → j < i + d → p j ≡ false) → Seeking p n from (i + d)
seeking-pass {p} {n} {from} {i} zero s h f = let e : i + 0 ≡ i = omega arith in rw e s
seeking-pass {p} {n} {from} {i} (suc d) s h f =
    let e : i + suc d ≡ i + d + 1 = omega arith in
    rw e (seeking-next (seeking-pass d s (omega arith) (λ j a b. f j a (omega arith))) (omega arith) refl (f (i + d) (omega arith) (omega arith)))

-- the search goes on from the next slot of the chain
seeking-to : {p q : ℕ → Bool} {n from i t : ℕ} → Seeking p n from i → Next q n i t → ((j : ℕ) → q j ≡ false → p j ≡ false) → Seeking p n from t
seeking-to {i = i} {t = t} y x f =
    let e : i + (t - i) ≡ t = omega (arith, x.above) in
    rw e at (seeking-pass (t - i) y (omega (arith, x.above, x.top)) (λ j a b. f j (x.before j a (omega (arith, x.above)))))

-- ---- along the chain: none from `from` up to s has the key, and s is on the chain
pub record Keying (z : Sizes) (tb : Table) (key from s : ℕ) : Type 0 where
  pub seeking : Seeking (keyed z tb key) z.n from s
  pub on : s < z.n → listed z tb.transient (job_name key) s ≡ true

module _ {wk tr : List ℕ} {z : Sizes} {key from : ℕ} (y : OnChain wk tr z key from) where
  pub keying-start : Keying z (table wk tr) key from from
  keying-start = record { seeking = seeking-start (keyed z (table wk tr) key) y.top; on = y.on }

  pub keying-slot : (s : ℕ) → s < z.n → Slot wk z.n z.w s
  keying-slot s h = slot y.shaped.working h

module _ {z : Sizes} {tb : Table} {key from s : ℕ} (y : Keying z tb key from s) where
  pub keying-end : z.n ≤ s → s ≡ first (keyed z tb key) from (z.n - from)
  keying-end h = seeking-end y.seeking h

  module _ (h : s < z.n) {b : Bool} (e : b ≡ has_key z tb.working key s) where
    pub keying-hit : b ≡ true → s ≡ first (keyed z tb key) from (z.n - from)
    keying-hit t = seeking-hit y.seeking h (keyed-is z tb key s (y.on h) e) t

    module _ {t : ℕ} (f : b ≡ false) (q : t ≡ leads_to tb.transient (link_at z s) (s + 1) z.n) where
      next-on : Next (listed z tb.transient (job_name key)) z.n (s + 1) t
      next-on = next-listed z tb.transient (job_name key) (y.on h) h q

      pub keying-next : Keying z tb key from t
      keying-next =
          record {
            seeking = seeking-to (seeking-next y.seeking h (keyed-is z tb key s (y.on h) e) f) next-on (λ j n. keyed-listed z tb key j n);
            on = next-on.passes;
          }

pub keying-less : {z : Sizes} {tb : Table} {key from s : ℕ} → Keying z tb key from s → s < z.n → {t : ℕ} → t ≡ leads_to tb.transient (link_at z s) (s + 1) z.n → z.n - t < z.n - s
keying-less {z = z} {tb = tb} {key = key} y h q = omega (arith, (next-listed z tb.transient (job_name key) (y.on h) h q).above)

-- ---- the first slot with the key, and the one that follows a slot
module _ {wk tr : List ℕ} {z : Sizes} (y : Shaped wk tr z) (key : ℕ) {name : Name} (m : name ≡ job_name key) {t : ℕ} (q : t ≡ leads_to tr (bucket_at z (bucket_of z.n name)) 0 z.n) where
  first_on : Next (listed z tr (job_name key)) z.n 0 t
  first_on = rw m at (first-listed z tr name q)

  pub first-chained : OnChain wk tr z key t
  first-chained = record { shaped = y; top = first_on.top; on = first_on.passes }

  pub first_key : {r : ℕ} → r ≡ first (keyed z (table wk tr) key) t (z.n - t) → r ≡ first (keyed z (table wk tr) key) 0 (z.n - 0)
  first_key e =
      e ∙ sym (seeking-to (seeking-start (keyed z (table wk tr) key) (omega arith)) first_on (λ j n. keyed-listed z (table wk tr) key j n)).same

module _ {wk tr : List ℕ} {z : Sizes} {key s t : ℕ} (y : Keyed wk tr z key s) (q : t ≡ leads_to tr (link_at z s) (s + 1) z.n) where
  after_on : Next (listed z tr (job_name key)) z.n (s + 1) t
  after_on = next-listed z tr (job_name key) y.on y.within q

  pub next-chained : OnChain wk tr z key t
  next-chained = record { shaped = y.shaped; top = after_on.top; on = after_on.passes }

  pub next-key : {r : ℕ} → r ≡ first (keyed z (table wk tr) key) t (z.n - t) → r ≡ first (keyed z (table wk tr) key) (s + 1) (z.n - (s + 1))
  next-key e =
      e ∙ sym (seeking-to (seeking-start (keyed z (table wk tr) key) (omega (arith, y.within))) after_on (λ j n. keyed-listed z (table wk tr) key j n)).same

pub ruleset keys = (key-is, shaped-chained, keying-start, keying-slot, keying-end, keying-hit, keying-next, keying-less, first-chained, first_key, next-chained, next-key)
