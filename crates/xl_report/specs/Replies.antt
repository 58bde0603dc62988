-- How many bytes a reply has in the line of an access.
use Rattle.std.specs.Prelude.{ℕ}
use Rattle.xl_model.specs.declared.leaf.Reply.{Reply}
use Rattle.xl_model.specs.declared.leaf.Reply.TheVariants as reply

-- the verdict's name between blanks, and a physical address or the code of a fault
abbrev pub reply_size : Reply → ℕ
reply_size (reply.Frame frame) = 20
reply_size reply.Unmapped = 12
reply_size reply.Denied = 10
reply_size reply.NotCanonical = 16
