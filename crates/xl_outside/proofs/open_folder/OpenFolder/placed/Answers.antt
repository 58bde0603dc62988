use Rattle.xl_outside.proofs.Common.{◌∙◌, ◌≡◌, ap, false, file_of, Files, IfSome, List, None, Option, refl, rules, Some, sym, true, ℕ}
use Rattle.xl_outside.specs.Streams.{IsFileOf, IsNamed, StreamState}
use Rattle.xl_outside.proofs.open_folder.OpenFolder.placed.Goals as goal

-- a file that is open, and was opened by this name, is the file of this name
named_file : (files : Option Files) (state : Option StreamState) (name : List ℕ)
    → ((fs : Files) → files ≡ Some fs → IsFileOf fs state) → IfSome state (λ s. s.name ≡ name)
    → IfSome files (λ fs. IsNamed state name (file_of fs name))
named_file None state name held named = tt
named_file (Some fs) None name held named = let none : false ≡ true = (held fs refl).0 in absurd (cc)
named_file (Some fs) (Some s) name held named = (named, ap (λ (n : List ℕ). file_of fs n) (sym named) ∙ (held fs refl).1)

pub returns-then-is_named : goal.returns-then-is_named
returns-then-is_named g c =
    named_file (g.O.Opener.files c.args.self.now.opener) (g.S.Stream.state c.in-Some.placed.stream) c.args.name.now
    (λ fs e. c.requires fs e c.in-Some.placed c.in-Some.is) (search rules)
