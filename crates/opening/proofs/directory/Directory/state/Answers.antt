-- An entry's state lies in the file, and a file's places are no large numbers.
use Rattle.std.proofs.Common.{arith}
use Rattle.opening.proofs.Indexed.{directory_entry}
use Rattle.opening.proofs.directory.Directory.state.Goals as goal

pub overflow_add-result : goal.overflow_add-result
overflow_add-result c =
    let d = c.args.self.now in
    omega (arith, d.within, (directory_entry _ _ _ _ d.bytes d.indexed d.room d.within d.opens c.args.i c.requires).state_room)

pub overflow_mul-result : goal.overflow_mul-result
overflow_mul-result c =
    let d = c.args.self.now in
    omega (arith, (directory_entry _ _ _ _ d.bytes d.indexed d.room d.within d.opens c.args.i c.requires).at_most)

pub overflow_add-result-2 : goal.overflow_add-result-2
overflow_add-result-2 c =
    let d = c.args.self.now in
    omega (arith, d.within, (directory_entry _ _ _ _ d.bytes d.indexed d.room d.within d.opens c.args.i c.requires).state_room)

pub overflow_add-result-3 : goal.overflow_add-result-3
overflow_add-result-3 c =
    let d = c.args.self.now in
    omega (arith, d.within, (directory_entry _ _ _ _ d.bytes d.indexed d.room d.within d.opens c.args.i c.requires).state_room)

pub bounds-self-self : goal.bounds-self-self
bounds-self-self c =
    let d = c.args.self.now in
    omega (arith, (directory_entry _ _ _ _ d.bytes d.indexed d.room d.within d.opens c.args.i c.requires).state_room)
