-- `word_end`: the place that was found, or the length.
use Rattle.std.proofs.Common.{◌≡◌, ◌∙◌, ap, nat_le, rules}
use Rattle.std.specs.Prelude.{unwrap_or, length}
use Rattle.trial.proofs.Ends.{place_or_length}
use Rattle.trial.proofs.cases.word_end.Goals as goal

pub returns-clause-value : goal.returns-clause-value
returns-clause-value c =
    let taken : c.unwrap_or.result ≡ unwrap_or c.gap_of.result (length c.args.line.now) = search rules in
    taken ∙ ap (λ o. unwrap_or o (length c.args.line.now)) c.gap_of.ensures ∙ place_or_length (λ b. nat_le b 32) c.args.line.now
