use Rattle.text.specs.Putting.{number_put}
use Rattle.text.proofs.put_number.Goals as goal

pub returns : goal.returns
returns c = number_put c.args.x c.decimal-k.result c.decimal-k.new.out c.decimal-k.ensures.in_bounds c.decimal-k.ensures.len c.ranges.x.fits c.decimal-k.ensures.digits c.put.ensures
