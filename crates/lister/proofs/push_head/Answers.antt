use Rattle.std.specs.Prelude.{refl}
use Rattle.lister.specs.Exits.{head-pushed}
use Rattle.lister.proofs.push_head.Goals as goal

pub returns-clause-value : goal.returns-clause-value
returns-clause-value g c =
    head-pushed c.args.out.now c.from.ensures refl c.push_figure.ensures.value c.push_figure-2.ensures.value c.push.ensures
