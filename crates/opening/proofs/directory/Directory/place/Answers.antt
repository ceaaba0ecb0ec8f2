-- An entry's link lies in the file.
use Rattle.std.proofs.Common.{arith}
use Rattle.opening.proofs.Indexed.{directory_entry}
use Rattle.opening.proofs.directory.Directory.place.Goals as goal

pub offset_bounds-self-i : goal.offset_bounds-self-i
offset_bounds-self-i c =
    let d = c.args.self.now in
    omega (arith, (directory_entry _ _ _ _ d.bytes d.indexed d.room d.within d.opens c.args.i c.requires).at_most)

pub bounds-self-i : goal.bounds-self-i
bounds-self-i c =
    let d = c.args.self.now in
    (directory_entry _ _ _ _ d.bytes d.indexed d.room d.within d.opens c.args.i c.requires).stored

pub returns-clause-within : goal.returns-clause-within
returns-clause-within c =
    let d = c.args.self.now in
    let a = directory_entry _ _ _ _ d.bytes d.indexed d.room d.within d.opens c.args.i c.requires in
    omega (arith, a.numbered.room, a.numbered.length_is)
