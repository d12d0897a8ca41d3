-- A cut: at every moment of a run recovery accepts the persistent image and makes of it the reference map's jobs at the clock less 2.
use Rattle.std.specs.Prelude.{ℕ, ◌+◌, ◌-◌, ◌≤◌, ◌<◌, ◌≡◌, true, false, ◌≢◌, ◌↔◌, Ok}
use Rattle.std.proofs.Math.Path.{sym}
use Rattle.std.proofs.Common.{ap, ◌∙◌, eqb-true, arith}
use Rattle.std.proofs.Math.Logic.Iff.{trans as Iff-trans}
use mathlib.Core.List.{List, Memᴰ}
use Rattle.std.proofs.Math.Dec.{eqb}
use Rattle.search.specs.Bools.{never, refuted, and_left, and_right}
use Rattle.search.specs.Some.{some_one}
use Rattle.image.specs.Layout.{header, contents, value_at, clock_of}
use Rattle.image.specs.declared.name.Name.{Name}
use Rattle.image.specs.Name.{misnamed, name_at, same-name, named-says}
use Rattle.transient.specs.declared.sizes.Sizes.{Sizes}
use Rattle.transient.specs.Store.{Store}
use Rattle.survival.specs.Survivors.{kept, survivor}
use Rattle.acceptance.specs.Accept.{version_below, survives_as, name_below, image_check}
use Rattle.acceptance.specs.Requires.{nameless, same_version}
use Rattle.acceptance.specs.Sound.{Sound, says-accepted}
use Rattle.recovery.specs.Requires.{finished}
use Rattle.recovery.specs.Steps.{survivors-apart}
use Rattle.recovery.proofs.Completes.{Rebuilt, recovery-bound, recovery-completes, recovery-rebuilds}
use Rattle.crash.specs.Reference.{Jobs, jobs_at, Fifo}
use Rattle.crash.specs.Slots.{Value, Slot, Worded}
use Rattle.crash.specs.Steps.{Kept, Survives}
use Rattle.crash.specs.Cut.{CutShows}
use Rattle.crash.proofs.Cut.{cut-versions, cut-names, cut-named, cut-jobs}
use Rattle.guarantee.specs.Trace.{Plain}
use Rattle.guarantee.specs.Promise.{jobs_of, Holds, Promise}
use Rattle.guarantee.specs.View.{entry_of, view, view_in, persistent-name, persistent-value}
use Rattle.guarantee.proofs.Good.{Good}
use Rattle.guarantee.specs.Says.{worded-proper}
use Rattle.guarantee.specs.Surviving.{kept_at, at-survives, survives-at}
use Rattle.guarantee.proofs.JobsOf.{Survivor, option-same, jobs-of, same-jobs}

-- recovery accepts the image, which has the reference map's jobs at the clock less 2
pub record Cuts (start : Jobs) (l : List ℕ) (p : Plain) : Type 0 where
  pub accepted : image_check l ≡ Ok tt
  pub clock : clock_of l ≡ p.clock
  pub jobs : (k : Name) → jobs_of l k ≡ jobs_at (p.clock - 2) start p.row k
  pub fifo : Fifo (p.clock - 2) start p.row
  pub durable : (e : ℕ) → Memᴰ e p.durable → e + 2 ≤ p.clock

-- where recovery is done, working is a copy
rebuilt-copy : {l : List ℕ} {words : ℕ} {st : Store} → Rebuilt l words st → st.working ≡ st.persistent
unfolding finished
rebuilt-copy r = ap (λ (x : Store). x.working) r.rest

-- ---- the cut
module _ {sz : Sizes} {start : Jobs} {st : Store} {p : Plain} (g : Good sz start st p) where
  abbrev image : List ℕ
  image = st.persistent

  abbrev slots : ℕ → Slot
  slots = view st sz p.clock

  abbrev e : ℕ
  e = p.clock - 2

  -- the threshold, by the reference map's clock and by the image's
  cut-clock : e + 2 ≡ p.clock
  cut-clock = omega (arith, g.inv.clock-lo)

  cut-image : e + 2 ≡ clock_of image
  cut-image = cut-clock ∙ sym g.persistent.clock-is

  some-width : 1 ≤ sz.w
  some-width = omega (arith, g.persistent.sized.sizes.width-lo)

  -- the persistent side of a slot: header, name and value
  is_at : (s : ℕ) → s < sz.n → (view st sz p.clock s).persistent ≡ entry_of (header image s) (contents image sz.n sz.w s)
  is_at s h = rw (view_in st sz p.clock s h)

  name-at : (s : ℕ) → s < sz.n → (slots s).persistent.name ≡ name_at image sz.n sz.w s
  name-at = persistent-name st sz p.clock some-width

  value-at : (s : ℕ) → s < sz.n → (slots s).persistent.value ≡ value_at image sz.n sz.w s
  value-at = persistent-value st sz p.clock some-width

  worded-at : (s : ℕ) → s < sz.n → Worded p.clock (entry_of (header image s) (contents image sz.n sz.w s))
  worded-at s h = rw (is_at s h) at (g.inv.one s).worded

  -- kept slots and survivors of the image are those of the table
  kept_here : (s : ℕ) → s < sz.n → kept (clock_of image) (header image s) ≡ true → Kept e (slots s).persistent
  kept_here = kept_at st sz p.clock e cut-image

  survives-here : (s : ℕ) → s < sz.n → survivor image sz.n s ≡ true → Survives e slots s
  survives-here = survives-at st sz p.clock e cut-image (λ m h. (worded-at m h).kind-hi)

  -- every survivor has a name
  cut-nameless : (s : ℕ) → s < sz.n → nameless image sz.n sz.w s ≡ false
  unfolding nameless
  cut-nameless s h = refuted (nameless image sz.n sz.w s) (λ y.
      let x = survivor image sz.n s in
      let named = rw (name-at s h) at (cut-named g.inv cut-clock s (survives-here s h (and_left x _ y))) in
      never (misnamed (name_at image sz.n sz.w s)) (and_right x _ y) (named-says (name_at image sz.n sz.w s) named))

  -- no version is kept twice
  cut-version : (s : ℕ) → s < sz.n → version_below (clock_of image) (header image) s ≡ false
  unfolding version_below same_version
  cut-version s h = refuted (version_below (clock_of image) (header image) s) (λ y.
      let x = kept (clock_of image) (header image s) in
      let o = some_one (λ m. same_version (clock_of image) (header image s) (header image m)) s (and_right x _ y) in
      let m = o.at in
      let b : m < sz.n = omega (arith, o.below) in
      let d : m ≢ s = λ q. omega (arith, o.below) in
      let z = kept (clock_of image) (header image m) in
      let u = eqb (header image m).uid (header image s).uid in
      let r = and_right z _ o.passes in
      cut-versions g.inv cut-clock m s d (kept_here m b (and_left z _ o.passes)) (kept_here s h (and_left x _ y))
      (rw (is_at m b, is_at s h) (eqb-true _ _ (and_left u _ r)))
      (rw (is_at m b, is_at s h) (eqb-true _ _ (and_right u _ r))))

  -- no name survives twice
  cut-name : (s : ℕ) → s < sz.n → name_below image sz.n sz.w s ≡ false
  unfolding name_below survives_as
  cut-name s h = refuted (name_below image sz.n sz.w s) (λ y.
      let x = survivor image sz.n s in
      let o = some_one (survives_as image sz.n sz.w (name_at image sz.n sz.w s)) s (and_right x _ y) in
      let m = o.at in
      let b : m < sz.n = omega (arith, o.below) in
      let d : m ≢ s = λ q. omega (arith, o.below) in
      let z = survivor image sz.n m in
      cut-names g.inv cut-clock m s d (survives-here m b (and_left z _ o.passes)) (survives-here s h (and_left x _ y))
      (name-at m b ∙ same-name _ _ (and_right z _ o.passes) ∙ sym (name-at s h)))

  -- recovery accepts what a cut leaves
  pub cut-accepted : image_check st.persistent ≡ Ok tt
  cut-accepted =
      let i = g.persistent in
      let sound : Sound image sz.n sz.w =
      record {
        all-proper = λ s h. rw i.clock-is (worded-proper p.clock (header image s) (contents image sz.n sz.w s) (worded-at s h));
        named = cut-nameless;
        versions = cut-version;
        names = cut-name;
      } in
      says-accepted image
      (record {
        sized = rw (i.slots-is, i.width_is) i.sized;
        clock-lo = rw i.clock-is g.inv.clock-lo;
        clock-hi = rw i.clock-is g.clock-hi;
        sound = rw (i.slots-is, i.width_is) sound;
      })

  -- what survives in the image survives in the table, with name and value
  cut-shown : (k : Name) (v : Value) → Survivor image sz.n sz.w k v ↔ CutShows e slots k v
  cut-shown k v = (
    λ j. let h = j.below in
        record {
          at = j.at;
          survives = survives-here j.at h j.survives;
          name-is = name-at j.at h ∙ j.name-is;
          value-is = value-at j.at h ∙ j.value-is;
        },
    λ a. let s = at-survives st sz p.clock e cut-image a.at a.survives in
        record {
          at = a.at;
          below = s.0;
          survives = s.1;
          name-is = sym (name-at a.at s.0) ∙ a.name-is;
          value-is = sym (value-at a.at s.0) ∙ a.value-is;
        },
  )

  -- the jobs of the image are the reference map's at the clock less 2
  cut-map : (k : Name) → jobs_of image k ≡ jobs_at e start p.row k
  cut-map k =
      let i = g.persistent in
      option-same (jobs_of image k) (jobs_at e start p.row k)
      (λ v. Iff-trans (jobs-of k v cut-accepted i.slots-is i.width_is) (Iff-trans (cut-shown k v) (cut-jobs g.inv cut-clock k v)))

  -- so a cut may fall here
  pub good-cuts : Cuts start st.persistent p
  good-cuts = record { accepted = cut-accepted; clock = g.persistent.clock-is; jobs = cut-map; fifo = g.fifo (p.clock - 2); durable = g.past.durable-hi }

-- ---- demand 3 of such an image
module _ {start : Jobs} {l : List ℕ} {p : Plain} (c : Cuts start l p) where
  rebuilt-holds : {words : ℕ} {done : Store} → Rebuilt l words done → Holds done.persistent (jobs_at (p.clock - 2) start p.row)
  rebuilt-holds r = record { same = λ k. same-jobs r.same k ∙ c.jobs k; once = survivors-apart _ r.accepted }

  pub cut-promise : Promise start l p
  cut-promise =
      record {
        clock = c.clock;
        at_most = λ r. recovery-bound c.accepted r;
        completes = λ r. recovery-completes c.accepted r;
        persistent = λ r any d. rebuilt-holds (recovery-rebuilds c.accepted r any d);
        working = λ r any d. let b = recovery-rebuilds c.accepted r any d in rw (rebuilt-copy b) (rebuilt-holds b);
        fifo = c.fifo;
        durable = c.durable;
      }
