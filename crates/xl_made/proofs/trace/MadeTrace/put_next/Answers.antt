use Rattle.xl_made.proofs.Common.{◌<◌, address_of, ap, arith, IsFirstOf, letter_of, refl, size_of}
use Rattle.xl_made.proofs.ReadLemmas.{first_given}
use Rattle.xl_made.proofs.trace.MadeTrace.put_next.Goals as goal

pub returns-clause-some : goal.returns-clause-some
returns-clause-some c =
    let t = c.self.inside in
    let some : 0 < t.left = omega (arith, c.if-self-eq0.false) in
    let w = c.next_word-word.result in
    λ _. record {
      word = w;
      first = first_given t.left t.generator _ w _ (letter_of w) (address_of w) (size_of w) some c.self.view_is (ap (λ p. p.0) c.next_word-word.ensures) (ap (λ p. p.1) c.next_word-word.ensures) refl refl refl;
      follows = c.put_record.ensures;
    }

pub returns-clause-no_more : goal.returns-clause-no_more
returns-clause-no_more c =
    let t = c.self.inside in
    let some : 0 < t.left = omega (arith, c.if-self-eq0.false) in
    let w = c.next_word-word.result in
    let first : IsFirstOf w c.args.self.now _ = first_given t.left t.generator c.next_word-word.new.self w c.args.self.now (letter_of w) (address_of w) (size_of w) some c.self.view_is (ap (λ p. p.0) c.next_word-word.ensures) (ap (λ p. p.1) c.next_word-word.ensures) refl refl refl in
    omega (arith, first.fewer)
