-- The line of an access, in the order in which it is put together.
use Rattle.xl_report.proofs.Common.{◌++◌, ◌∙◌, ◌≡◌, [], append_assoc, code_of, codes, decimal, hex16, Kind, List, physical, Reply, sym, with_reply, ℕ}
use Rattle.xl_model.specs.declared.leaf.Reply.TheVariants as reply

-- a reply after a line, and alone
pub reply_alone : (line : List ℕ) (k : Kind) (va : ℕ) (r : Reply) → line ++ with_reply [] k va r ≡ with_reply line k va r
reply_alone line k va (reply.Frame frame) = sym (append_assoc line (codes " ok ") (hex16 (physical frame va)))
reply_alone line k va reply.Unmapped = sym (append_assoc line (codes " unmapped ") (decimal (code_of k)))
reply_alone line k va reply.Denied = sym (append_assoc line (codes " denied ") (decimal (code_of k)))
reply_alone line k va reply.NotCanonical = sym (append_assoc line (codes " notcanonical ") (decimal (code_of k)))

-- the parts of a line, from its end to its front
pub joined : (a b c d e f g h i : List ℕ) → a ++ (b ++ (c ++ (d ++ (e ++ (f ++ (g ++ (h ++ i))))))) ≡ a ++ b ++ c ++ d ++ e ++ f ++ g ++ h ++ i
joined a b c d e f g h i =
    sym (append_assoc a b (c ++ (d ++ (e ++ (f ++ (g ++ (h ++ i)))))))
    ∙ sym (append_assoc (a ++ b) c (d ++ (e ++ (f ++ (g ++ (h ++ i))))))
    ∙ sym (append_assoc (a ++ b ++ c) d (e ++ (f ++ (g ++ (h ++ i)))))
    ∙ sym (append_assoc (a ++ b ++ c ++ d) e (f ++ (g ++ (h ++ i))))
    ∙ sym (append_assoc (a ++ b ++ c ++ d ++ e) f (g ++ (h ++ i)))
    ∙ sym (append_assoc (a ++ b ++ c ++ d ++ e ++ f) g (h ++ i))
    ∙ sym (append_assoc (a ++ b ++ c ++ d ++ e ++ f ++ g) h i)
