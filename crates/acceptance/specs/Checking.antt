-- The check of an image's slots by its two passes: what contracts say, and the laws.
use Rattle.std.specs.Prelude.{◌≡◌, ℕ, ◌≤◌, Bool, true, false, ◌||◌, List, length, replicate, Result, Ok, Err}
use Rattle.std.proofs.Math.Path.{sym}
use Rattle.std.proofs.Common.{◌∙◌, arith}
use Rattle.std.proofs.lemmas.List.{length-replicate}
use Rattle.reply.specs.declared.Refusal.{Refusal}
use Rattle.reply.specs.declared.Refusal.TheVariants.{Duplicate}
use Rattle.reply.specs.Refusals.{Check, both-accepted}
use Rattle.image.specs.Layout.{slots_of, width_of}
use Rattle.image.specs.Requires.{Sized}
use Rattle.chains.specs.Chains.{Lent, Blank}
use Rattle.chains.specs.Requires.{blank-new}
use Rattle.survival.specs.Requires.{Marked, headers-of, sized-marked}
use Rattle.survival.specs.Rivals.{Flags}
use Rattle.acceptance.specs.Accept.{image_check}
use Rattle.acceptance.specs.Laws.{image-is, image-sized}
use Rattle.acceptance.specs.Requires.{head_check, slots_check, all_proper, some_nameless, version_twice, name_twice}
use Rattle.acceptance.specs.Judging.{Room, Judged}
use Rattle.acceptance.specs.Naming.{NamesRoom, Named}

-- an image and the memory lent for both passes
pub record CheckRoom (img : List ℕ) (n w m : ℕ) (l : List ℕ) (flags : List Bool) : Type 0 where
  pub sized : Sized img n w
  pub fits : n ≤ m
  pub blank : Blank m l
  pub long : length flags ≡ 1024

-- the check, and of an image that is accepted the flags
pub record Checked (img : List ℕ) (n w : ℕ) (r : Check) (flags : List Bool) : Type 0 where
  pub same : r ≡ slots_check img n w
  pub marked : r ≡ Ok tt → Marked img n flags

-- .. of a whole image
pub record Accepted (img : List ℕ) (r : Check) (flags : List Bool) : Type 0 where
  pub same : r ≡ image_check img
  pub marked : r ≡ Ok tt → Marked img (slots_of img) flags

-- an image whose slots are accepted
pub record SlotsFine (img : List ℕ) (n w : ℕ) : Type 0 where
  pub sized : Sized img n w
  pub fine : slots_check img n w ≡ Ok tt

pub image-fine : (l : List ℕ) {n w : ℕ} → image_check l ≡ Ok tt → n ≡ slots_of l → w ≡ width_of l → SlotsFine l n w
image-fine l a p q =
    rw (p, q) (record { sized = image-sized l a; fine = (both-accepted (head_check l) (slots_check l (slots_of l) (width_of l)) (sym (image-is l) ∙ a)).1 })

-- ---- the ways out
pub declines : {A : Type 0} {e : Refusal} → ◌≡◌ {A = Check} (Err e) (Ok tt) → A
declines q = let d : ◌≡◌ {A = ℕ} 0 1 = cc in absurd (omega arith)

module _ {img : List ℕ} {n w m : ℕ} {l : List ℕ} {flags : List Bool} (z : CheckRoom img n w m l flags) where
  pub room-judges : Room img n m l flags
  room-judges = record { headers = headers-of z.sized; fits = z.fits; blank = z.blank; long = z.long }

  module _ {l' : List ℕ} {flags' : List Bool} {r : Result Bool Refusal} (y : Judged img n m l' flags' r) where
    pub room-bad : {e : Refusal} → r ≡ Err e → Checked img n w (Err e) flags'
    unfolding slots_check all_proper
    room-bad p = let v = y.refused p in record { same = rw (v.0, v.1); marked = declines }

    module _ {b : Bool} (p : r ≡ Ok b) where
      pub room-lent : Lent m l'
      room-lent = (y.found p).lent

      pub room-names : {l'' : List ℕ} → Blank m l'' → NamesRoom img n w m l'' flags'
      room-names k = record { marked = sized-marked z.sized (y.found p).marked; fits = z.fits; blank = k }

      module _ {k : List ℕ} {q : Result Bool Refusal} (v : Named img n w m k q) where
        pub room-nameless : {e : Refusal} → q ≡ Err e → Checked img n w (Err e) flags'
        unfolding slots_check all_proper some_nameless
        room-nameless u = let x = v.refused u in record { same = rw (x.0, (y.found p).proper-is, x.1); marked = declines }

        module _ {d : Bool} (u : q ≡ Ok d) where
          pub room-twice : (b || d) ≡ true → Checked img n w (Err Duplicate) flags'
          unfolding slots_check all_proper some_nameless version_twice name_twice
          room-twice t =
              let f = y.found p in
              let x = v.found u in
              record { same = rw (f.proper-is, x.named, ← f.twice-is, ← x.twice-is, t); marked = declines }

          pub room-fine : (b || d) ≡ false → Checked img n w (Ok tt) flags'
          unfolding slots_check all_proper some_nameless version_twice name_twice
          room-fine t =
              let f = y.found p in
              let x = v.found u in
              record { same = rw (f.proper-is, x.named, ← f.twice-is, ← x.twice-is, t); marked = λ a. f.marked }

-- ---- memory by the number of slots
module _ {img : List ℕ} {n w : ℕ} {flags : List Bool} (z : Sized img n w) (f : Flags flags) where
  pub room_small : n ≤ 16 → CheckRoom img n w 16 (replicate 64 0) flags
  room_small h = record { sized = z; fits = h; blank = blank-new 16 (omega arith) (omega arith); long = f.long }

  pub room-middle : n ≤ 128 → CheckRoom img n w 128 (replicate 512 0) flags
  room-middle h = record { sized = z; fits = h; blank = blank-new 128 (omega arith) (omega arith); long = f.long }

  pub room-large : CheckRoom img n w 1024 (replicate 4096 0) flags
  room-large = record { sized = z; fits = z.sizes.slots-hi; blank = blank-new 1024 (omega arith) (omega arith); long = f.long }

pub flags-new : Flags (replicate 1024 false)
flags-new = record { long = length-replicate 1024 false }

pub accepted-same : {img : List ℕ} {r : Check} {flags : List Bool} → Accepted img r flags → r ≡ image_check img
accepted-same z = z.same

pub checked-same : {img : List ℕ} {n w : ℕ} {r : Check} {flags : List Bool} → Checked img n w r flags → r ≡ slots_check img n w
checked-same z = z.same

pub fine-sized : {img : List ℕ} {n w : ℕ} → SlotsFine img n w → Sized img n w
fine-sized z = z.sized

pub fine-marked : {img : List ℕ} {n w : ℕ} {r : Check} {flags : List Bool} → SlotsFine img n w → Checked img n w r flags → Marked img n flags
fine-marked z y = y.marked (y.same ∙ z.fine)

pub ruleset checks = (room-judges, room-bad, room-lent, room-names, room-nameless, room-twice, room-fine, room_small, room-middle, room-large, flags-new, accepted-same, checked-same, fine-sized, fine-marked)
