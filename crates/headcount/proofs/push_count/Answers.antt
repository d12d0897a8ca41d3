use Rattle.headcount.specs.Exits.{count-pushed}
use Rattle.headcount.proofs.push_count.Goals as goal

pub returns : goal.returns
returns g c =
    count-pushed c.args.out.now c.args.c c.from.ensures c.from-2.ensures c.from-3.ensures c.from-4.ensures c.total.ensures c.push_figure.ensures.value c.push_figure-2.ensures.value c.push_figure-3.ensures.value c.push_figure-4.ensures.value c.push_figure-5.ensures.value c.push.ensures
