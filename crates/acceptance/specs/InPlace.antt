-- The server's questions of an image read in place from its bytes: what is answered, and the laws.
use Rattle.std.specs.Prelude.{◌≡◌, ℕ, ◌<◌, Bool, true, false, not, List, [], length, ◌==◌, slice_index, slice_index_or, Result, Ok, Err}
use Rattle.std.proofs.Common.{refl, sym, ◌∙◌, arith}
use Rattle.search.specs.Count.{count}
use Rattle.reply.specs.declared.Refusal.{Refusal}
use Rattle.reply.specs.declared.Refusal.TheVariants.{BadSizes}
use Rattle.reply.specs.Refusals.{Check, refuse, by_check, declined_number, not-refused}
use Rattle.image.specs.Layout.{jobs_board, header, slots_of, width_of}
use Rattle.image.specs.Bytes.{words_of}
use Rattle.image.specs.Requires.{board_at}
use Rattle.survival.specs.Survivors.{survives_on}
use Rattle.survival.specs.Requires.{Marked, FlagAt, flag_at, flag-header}
use Rattle.survival.specs.Laws.{flag_is}
use Rattle.acceptance.specs.Accept.{image_check}
use Rattle.acceptance.specs.Questions.{job_count, bytes_ok, clock_of_bytes, survivors_of_bytes}
use Rattle.acceptance.specs.Laws.{image-sized}
use Rattle.acceptance.specs.Requires.{head_check}
use Rattle.acceptance.specs.Checking.{Checked, Accepted, flags-new}
use Rattle.acceptance.specs.Exits.{check-declines, check-goes}

-- ---- answers
unfoldable pub jobs_of : List ℕ → Result ℕ Refusal
jobs_of l = by_check (image_check l) Err (Ok (job_count l (slots_of l)))

unfoldable pub jobs_of_bytes : List ℕ → Result ℕ Refusal
jobs_of_bytes bytes = by_check (refuse (not (bytes_ok (length bytes))) BadSizes (image_check (words_of bytes))) Err (Ok (job_count (words_of bytes) (slots_of (words_of bytes))))

-- ---- the count
module _ {l : List ℕ} {n s : ℕ} {flags : List Bool} (z : FlagAt l n s flags) where
  pub job-flag : s < length flags
  job-flag = omega (arith, z.within, z.marked.headers.slots-hi, z.marked.flagged.long)

  pub job-yes : {g : ℕ} → slice_index_or flags s false ≡ true → g ≡ board_at l s → (g == jobs_board) ≡ survives_on l n jobs_board s
  unfolding survives_on header
  job-yes t e = rw (flag_is z.marked.flagged z.within t, e)

  pub job-no : slice_index_or flags s false ≡ false → false ≡ survives_on l n jobs_board s
  unfolding survives_on
  job-no t = rw (flag_is z.marked.flagged z.within t)

pub jobs-are : (l : List ℕ) (n : ℕ) {k : ℕ} → k ≡ count (survives_on l n jobs_board) n → k ≡ job_count l n
unfolding job_count
jobs-are l n e = e

module _ {l : List ℕ} {r : Check} {flags : List Bool} (z : Accepted l r flags) where
  pub words-declines : {e : Refusal} → r ≡ Err e → Err e ≡ jobs_of l
  unfolding jobs_of
  words-declines q = rw (← z.same, q)

  module _ (q : r ≡ Ok tt) where
    pub words-long : 0 < length l
    words-long = omega (arith, (image-sized l (sym z.same ∙ q)).long)

    pub words-marked : {n : ℕ} → n ≡ slots_of l → Marked l n flags
    words-marked e = rw e (z.marked q)

    pub words-counts : {n k : ℕ} → n ≡ slots_of l → k ≡ job_count l n → Ok k ≡ jobs_of l
    unfolding jobs_of
    words-counts e h = rw (← z.same, q, h, e)

-- ---- the head is asked first, and then the slots
module _ (l : List ℕ) {k : Check} (c : k ≡ head_check l) where
  pub head-refused : {e : Refusal} → k ≡ Err e → Err e ≡ jobs_of l
  head-refused a = words-declines (check-declines l c {flags = []} a) refl

  pub slots-refused : {n w : ℕ} {r : Check} {flags : List Bool} → k ≡ Ok tt → n ≡ slots_of l → w ≡ width_of l → Checked l n w r flags → {e : Refusal} → r ≡ Err e
      → Err e ≡ jobs_of l
  slots-refused a p q h b = words-declines (check-goes l c a p q h) b

-- ---- any bytes
module _ (bytes : List ℕ) {b : Bool} (e : b ≡ bytes_ok (length bytes)) where
  pub any-declines : b ≡ false → Err BadSizes ≡ jobs_of_bytes bytes
  unfolding jobs_of_bytes
  any-declines f = rw (← e, f)

  pub any-jobs : {j : Result ℕ Refusal} → b ≡ true → j ≡ jobs_of (words_of bytes) → j ≡ jobs_of_bytes bytes
  unfolding jobs_of_bytes jobs_of
  any-jobs t h = h ∙ (rw (← e, t))

-- ---- what an answer says of the image
declined-is : (x : Check) (j : Result ℕ Refusal) (r : Refusal) (m g : ℕ) → j ≡ by_check x Err (Ok m) → j ≡ Err r → by_check x declined_number g ≡ declined_number r
declined-is (Ok _) j r m g e f = let z : ◌≡◌ {A = ℕ} 0 1 = cc in absurd (omega arith)
declined-is (Err q) j r m g e f = let z : q ≡ r = cc in rw z

counted_is : (x : Check) (j : Result ℕ Refusal) (k m : ℕ) → j ≡ by_check x Err (Ok m) → j ≡ Ok k → (x ≡ Ok tt) × (k ≡ m)
counted_is (Ok _) j k m e f = let z : k ≡ m = cc in (refl, z)
counted_is (Err q) j k m e f = let z : ◌≡◌ {A = ℕ} 0 1 = cc in absurd (omega arith)

module _ (bytes : List ℕ) {j : Result ℕ Refusal} (e : j ≡ jobs_of_bytes bytes) where
  abbrev judged : Check
  judged = refuse (not (bytes_ok (length bytes))) BadSizes (image_check (words_of bytes))

  pub jobs-declined : {r : Refusal} {v : ℕ} → j ≡ Err r → v ≡ declined_number r → v ≡ survivors_of_bytes bytes
  unfolding jobs_of_bytes survivors_of_bytes
  jobs-declined {r} f h = h ∙ sym (declined-is judged j r _ _ e f)

  pub jobs-counted : {k v : ℕ} → j ≡ Ok k → v ≡ k → v ≡ survivors_of_bytes bytes
  unfolding jobs_of_bytes survivors_of_bytes
  jobs-counted {k} f h = let z = counted_is judged j k _ e f in h ∙ z.1 ∙ (rw z.0)

  pub clock-declined : {r : Refusal} {v : ℕ} → j ≡ Err r → v ≡ declined_number r → v ≡ clock_of_bytes bytes
  unfolding jobs_of_bytes clock_of_bytes
  clock-declined {r} f h = h ∙ sym (declined-is judged j r _ _ e f)

  pub clock-told : {k c v : ℕ} → j ≡ Ok k → c ≡ slice_index (words_of bytes) 2 → v ≡ c → v ≡ clock_of_bytes bytes
  unfolding jobs_of_bytes clock_of_bytes
  clock-told {k} f p q = let z = counted_is judged j k _ e f in q ∙ p ∙ (rw z.0)

  pub clock-word : {k : ℕ} → j ≡ Ok k → 2 < length (words_of bytes)
  unfolding jobs_of_bytes
  clock-word {k} f =
      let z = (counted_is judged j k _ e f).0 in
      let y = not-refused (not (bytes_ok (length bytes))) BadSizes (image_check (words_of bytes)) z in
      omega (arith, (image-sized (words_of bytes) y.1).long)

pub ruleset told = (jobs-declined, jobs-counted, clock-declined, clock-told, clock-word)

pub ruleset answers = (flags-new, flag_at, flag-header, job-flag, job-yes, job-no, jobs-are, words-declines, words-long, words-marked, words-counts, head-refused, slots-refused, any-declines, any-jobs)
