use Rattle.std.proofs.Common.{refl}
use Rattle.pdb_parts.proofs.beside.ended_line.Goals as goal

-- the pieces make the line of the two numbers
pub returns : goal.returns
returns c = rw (
  c.push_str-5.ensures.bytes,
  c.push_str-4.ensures.bytes,
  c.push_str-3.ensures.bytes,
  c.push_str-2.ensures.bytes,
  c.push_str.ensures.bytes,
  c.new-line.ensures,
  c.format.ensures.text,
  c.format-2.ensures.text,
) refl
