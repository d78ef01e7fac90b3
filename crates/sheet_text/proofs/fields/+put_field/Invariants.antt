use Rattle.std.proofs.Common.{length}
use Rattle.sheet_text.proofs.fields.+put_field.Given as goal

abbrev pub decreases-put_field : goal.decreases-put_field
decreases-put_field l = length l.out.now
