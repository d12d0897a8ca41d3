-- Laws of the reference map: what one more entry of the row changes, and that epochs after the last change agree.
use Rattle.std.specs.Prelude.{ℕ, ◌≤◌, ◌<◌, ◌≡◌, refl, ◌≢◌, ◌⊎◌, ◌↔◌, List, [], ◌∷◌, ◌++◌, cond, leb, Some}
use Rattle.std.proofs.Common.{ap, ◌∙◌, inl, inr, arith, le-leb}
use mathlib.Core.List.Memᴰ
use Rattle.std.proofs.Math.Decide.{dec_le}
use Rattle.std.proofs.lemmas.Bool.{lt-leb}
use Rattle.image.specs.declared.name.Name.{Name}
use Rattle.image.specs.Name.{same_name, name-same, name-other, name-dec}
use Rattle.crash.specs.Reference.{Jobs, Change, jobs_at}
use Rattle.crash.specs.Slots.{Value, UpTo}

abbrev applied : Change → Jobs → Jobs
applied ch jobs = λ k. cond (same_name k ch.name) ch.value (jobs k)

-- the last entry changes the jobs last
jobs-snoc : (e : ℕ) (jobs : Jobs) (row : List Change) (ch : Change)
    → jobs_at e jobs (row ++ (ch ∷ [])) ≡ cond (leb ch.epoch e) (applied ch (jobs_at e jobs row)) (jobs_at e jobs row)
unfolding jobs_at
jobs-snoc e jobs [] ch = refl
jobs-snoc e jobs (x ∷ row) ch = jobs-snoc e (cond (leb x.epoch e) (applied x jobs) jobs) row ch

module _ (e : ℕ) (start : Jobs) (row : List Change) (ch : Change) (k : Name) where
  -- an entry of a later epoch is passed over
  jobs-late : e < ch.epoch → jobs_at e start (row ++ (ch ∷ [])) k ≡ jobs_at e start row k
  jobs-late h = ap (λ (jobs : Jobs). jobs k) (jobs-snoc e start row ch) ∙ rw (lt-leb ch.epoch e h) refl

  -- any other is applied
  jobs-due : ch.epoch ≤ e → jobs_at e start (row ++ (ch ∷ [])) k ≡ applied ch (jobs_at e start row) k
  jobs-due h = ap (λ (jobs : Jobs). jobs k) (jobs-snoc e start row ch) ∙ rw (le-leb ch.epoch e h) refl

  -- the last entry is of a later epoch, or of another name
  pub jobs-other : (e < ch.epoch) ⊎ (k ≢ ch.name) → jobs_at e start (row ++ (ch ∷ [])) k ≡ jobs_at e start row k
  jobs-other (inl h) = jobs-late h
  jobs-other (inr h) = elim (dec_le ch.epoch e) [ yes a ↦ jobs-due a ∙ rw (name-other k ch.name h) refl | no a ↦ jobs-late (omega arith) ]

  -- it is of this name and due
  pub jobs-hit : ch.epoch ≤ e → k ≡ ch.name → jobs_at e start (row ++ (ch ∷ [])) k ≡ ch.value
  jobs-hit h q = jobs-due h ∙ rw (name-same k ch.name q) refl

-- where every change is due, a later epoch sees the same jobs
pub jobs-agree : (d e : ℕ) (start : Jobs) (row : List Change) → d ≤ e → UpTo d row → jobs_at e start row ≡ jobs_at d start row
unfolding jobs_at
jobs-agree d e jobs [] h all = refl
jobs-agree d e jobs (x ∷ row) h all =
    let q : x.epoch ≤ d = all x (Memᴰ.head refl) in
    rw (le-leb x.epoch d q, le-leb x.epoch e (omega arith)) (jobs-agree d e (applied x jobs) row h (λ ch w. all ch (Memᴰ.tail w)))

-- one more change of an epoch up to c
pub late-snoc : (c : ℕ) (row : List Change) (x : Change) → x.epoch ≤ c → UpTo c row → UpTo c (row ++ (x ∷ []))
late-snoc c row x h all ch m = elim (Memᴰ.append_cases row m) [ inl w ↦ all ch w | inr w ↦ rw (Memᴰ.eq_of_singleton w) h ]

-- S and S' say what is seen at e before and after a change; first what it leaves as it was, then what it is seen by
pub shown-step : (S S' : Name → Value → Type 0) (start : Jobs) (row : List Change) (ch : Change) (e : ℕ)
    → ((k : Name) (v : Value) → S k v ↔ (jobs_at e start row k ≡ Some v))
    → ((k : Name) (v : Value) → (e < ch.epoch) ⊎ (k ≢ ch.name) → S k v ↔ S' k v)
    → (ch.epoch ≤ e → (v : Value) → S' ch.name v ↔ (ch.value ≡ Some v))
    → (k : Name) (v : Value) → S' k v ↔ (jobs_at e start (row ++ (ch ∷ [])) k ≡ Some v)
shown-step S S' start row ch e was quiet loud k v = go (dec_le ch.epoch e) (name-dec k ch.name)
  where
    same : (e < ch.epoch) ⊎ (k ≢ ch.name) → S' k v ↔ (jobs_at e start (row ++ (ch ∷ [])) k ≡ Some v)
    same h = rw (jobs-other e start row ch k h) (λ x. (was k v).0 ((quiet k v h).1 x), λ x. (quiet k v h).0 ((was k v).1 x))

    go : Dec (ch.epoch ≤ e) → Dec (k ≡ ch.name) → S' k v ↔ (jobs_at e start (row ++ (ch ∷ [])) k ≡ Some v)
    go (no a) d = same (inl (omega arith))
    go (yes a) (no b) = same (inr b)
    go (yes a) (yes b) = rw (jobs-hit e start row ch k a b, b) (loud a v)
