use Rattle.candump_log.proofs.ByteLaws.{PieceLaw, NumberLaw}
use Rattle.candump_log.proofs.LineLaws.{line_of-is, line_of-one, line_of-keeps, interface_exactly, no_interface_exactly}
use Rattle.candump_log.proofs.laws.one_line.Goals as goal

pub returns-clause-some : goal.returns-clause-some
returns-clause-some c =
    line_of-is (record { literal = c.pieces_are_what_a_text_begins_with.ensures.literal; found = c.pieces_are_what_a_text_begins_with.ensures.found; there = c.pieces_are_what_a_text_begins_with.ensures.there })
    (record { value = c.a_number_is_that_of_its_digits.ensures.value; below = c.a_number_is_that_of_its_digits.ensures.below })

pub returns-clause-one : goal.returns-clause-one
returns-clause-one c =
    line_of-one (record { literal = c.pieces_are_what_a_text_begins_with.ensures.literal; found = c.pieces_are_what_a_text_begins_with.ensures.found; there = c.pieces_are_what_a_text_begins_with.ensures.there })
    (record { value = c.a_number_is_that_of_its_digits.ensures.value; below = c.a_number_is_that_of_its_digits.ensures.below })

pub returns-clause-limits : goal.returns-clause-limits
returns-clause-limits c =
    line_of-keeps (record { literal = c.pieces_are_what_a_text_begins_with.ensures.literal; found = c.pieces_are_what_a_text_begins_with.ensures.found; there = c.pieces_are_what_a_text_begins_with.ensures.there })
    (record { value = c.a_number_is_that_of_its_digits.ensures.value; below = c.a_number_is_that_of_its_digits.ensures.below })

pub returns-clause-interface : goal.returns-clause-interface
returns-clause-interface c =
    interface_exactly (record { literal = c.pieces_are_what_a_text_begins_with.ensures.literal; found = c.pieces_are_what_a_text_begins_with.ensures.found; there = c.pieces_are_what_a_text_begins_with.ensures.there })
    (record { value = c.a_number_is_that_of_its_digits.ensures.value; below = c.a_number_is_that_of_its_digits.ensures.below })

pub returns-clause-no_interface : goal.returns-clause-no_interface
returns-clause-no_interface c =
    no_interface_exactly (record { literal = c.pieces_are_what_a_text_begins_with.ensures.literal; found = c.pieces_are_what_a_text_begins_with.ensures.found; there = c.pieces_are_what_a_text_begins_with.ensures.there })
    (record { value = c.a_number_is_that_of_its_digits.ensures.value; below = c.a_number_is_that_of_its_digits.ensures.below })
