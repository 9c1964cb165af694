-- Each closed statement of specs/Always is the theorem that it says again.
use Rattle.writer.proofs.Told.{comes-back-exactly}
use Rattle.writer.proofs.Exactly.{card-exactly, reads-exactly, given-iff, given-one-kind}
use Rattle.writer.proofs.Ends.{card-fields, judged-at-end}
use Rattle.writer.proofs.Begun.{field-by-field}
use Rattle.writer.proofs.RuleByte.{card-rule-byte, cards-apart}
use Rattle.planner.proofs.Calls.{card-any-table, card-list-any-table}
use Rattle.cases.specs.Always.{CardsExactly, FilesExactly, ComeBackAlways, GivenAlways, JudgedAlways, BegunAlways, CardsWithin, RuleAlways, ApartAlways, PlansAlike, ListsAlike, SharesAlways, AddsAlways, ReleasesAlways}
use Rattle.cases.proofs.SupposedShown.{releases-given}
use Rattle.cases.proofs.WorkedShown.{shares-in-bytes, adds-in-bytes}

pub cards-exactly : CardsExactly
cards-exactly file y bytes = card-exactly file y bytes

pub files-exactly : FilesExactly
files-exactly file y bytes = reads-exactly file y bytes

pub come-back-always : ComeBackAlways
come-back-always told y = comes-back-exactly told y

pub given-always : GivenAlways
given-always y = (given-iff y, given-one-kind y)

pub judged-always : JudgedAlways
judged-always told y within = judged-at-end told y within

pub begun-always : BegunAlways
begun-always told y within = field-by-field told y within

pub cards-within : CardsWithin
cards-within y card = card-fields y card

pub rule-always : RuleAlways
rule-always file y bytes reads = card-rule-byte file y bytes reads

pub apart-always : ApartAlways
apart-always own_file shared_file bytes bytes_too apart = cards-apart own_file shared_file bytes bytes_too apart

pub plans-alike : PlansAlike
plans-alike file table other room r s after last long p q = card-any-table file table other room long r s after last p q

pub lists-alike : ListsAlike
lists-alike file table other list a b after last l m long p q = card-list-any-table file table other list long a b after last l m p q

pub shares-always : SharesAlways
shares-always own_file shared_file bytes bytes_too apart = shares-in-bytes own_file shared_file bytes bytes_too apart

pub adds-always : AddsAlways
adds-always first_file second_file both_file = adds-in-bytes first_file second_file both_file

pub releases-always : ReleasesAlways
releases-always y = releases-given y
