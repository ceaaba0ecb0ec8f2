-- An entry's fields, read off its header, and its state off the manifest.
use Rattle.opening.specs.directory.Entry.{entry_read_at}
use Rattle.opening.proofs.directory.Directory.entry.Goals as goal

pub returns : goal.returns
unfolding entry_read_at
returns c =
    rw (
      ← c.place-p.ensures.place,
      c.u64_at.ensures,
      c.u64_at-2.ensures,
      c.u64_at-3.ensures,
      c.u64_at-4.ensures,
      c.state.ensures,
      c.u16_at.ensures,
    )
