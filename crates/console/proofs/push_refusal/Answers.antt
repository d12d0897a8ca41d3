use Rattle.console.specs.Exits.{refusal-pushed}
use Rattle.console.proofs.push_refusal.Goals as goal

pub returns : goal.returns
returns g c = refusal-pushed c.args.out.now c.args.r c.from-2.ensures c.from.ensures c.push_figure.ensures.value c.push.ensures
