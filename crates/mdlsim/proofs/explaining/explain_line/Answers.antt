-- If memory runs out for the text of the line, nothing is written.
use Rattle.std.proofs.Common.{List, Option, Err, Some, None, refl, ℕ}
use Rattle.std.specs.Io.KnownBytes.{Keeps}
use Rattle.mdl_lines.specs.declared.fault.Fault.TheVariants.{Memory}
use Rattle.mdlsim.proofs.explaining.explain_line.Goals as goal

keeps : (old : Option (List ℕ)) → Keeps old old
keeps None = tt
keeps (Some bytes) = refl

pub returns-in-Err : goal.returns-in-Err
returns-in-Err g c = (Err Memory, (tt, keeps (g.W.Write.contents c.args.output.now)), c.report.ensures, λ succeeded. absurd (cc))
