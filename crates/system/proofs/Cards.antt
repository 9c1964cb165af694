-- What a file that was read is, by its second kind: each case computes.
use Rattle.system.specs.Card.{card_of, CardIs}

pub card-is : CardIs
unfolding card_of
card-is = record { not_read = λ x n e. rw e; one_kind = λ x y e one. rw (e, one); two_kinds = λ x y k e two. rw (e, two) }
