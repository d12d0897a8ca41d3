-- What a step's answer stands for: its reply, and the place beside what the step leaves.
use Rattle.std.specs.Prelude.{ℕ, Bool, true, false, List}
use Rattle.step.specs.declared.Moved.{Moved}
use Rattle.step.specs.declared.Advance.{Advance}
use Rattle.step.specs.declared.Advance.TheVariants.{WentOn, Ticked}
use Rattle.step.specs.Step.{Stepped, stepped}

abbrev pub reply_of : Bool → Advance
reply_of true = Ticked
reply_of false = WentOn

abbrev pub moved : Moved → List ℕ → List ℕ → List ℕ → Stepped
moved r wk l tr = stepped (reply_of r.ticked) wk l tr r.place
