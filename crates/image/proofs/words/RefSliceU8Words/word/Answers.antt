-- `word`: its four bytes are there.
use Rattle.std.proofs.Common.{arith}
use Rattle.image.specs.Words.{packed-top}
use Rattle.image.proofs.words.RefSliceU8Words.word.Goals as goal

pub overflow_mul-b : goal.overflow_mul-b
overflow_mul-b c = omega (arith, packed-top c.args.self.now c.requires)

pub bounds-self-b : goal.bounds-self-b
bounds-self-b c = omega (arith, packed-top c.args.self.now c.requires)

pub overflow_add-b : goal.overflow_add-b
overflow_add-b c = omega (arith, packed-top c.args.self.now c.requires)

pub bounds-self-b-2 : goal.bounds-self-b-2
bounds-self-b-2 c = omega (arith, packed-top c.args.self.now c.requires)

pub overflow_add-b-2 : goal.overflow_add-b-2
overflow_add-b-2 c = omega (arith, packed-top c.args.self.now c.requires)

pub bounds-self-b-3 : goal.bounds-self-b-3
bounds-self-b-3 c = omega (arith, packed-top c.args.self.now c.requires)

pub overflow_add-b-3 : goal.overflow_add-b-3
overflow_add-b-3 c = omega (arith, packed-top c.args.self.now c.requires)

pub bounds-self-b-4 : goal.bounds-self-b-4
bounds-self-b-4 c = omega (arith, packed-top c.args.self.now c.requires)
