use Rattle.std.proofs.Common.{arith}
use Rattle.image_words.proofs.WordLaws.{earlier}
use Rattle.image_words.proofs.DecodeLaws.{bus_there, bus_within, bus_is, valid_at}
use Rattle.image_words.proofs.walking.bus_at.Goals as goal

pub overflow_mul-bus : goal.overflow_mul-bus
overflow_mul-bus g c = let within = bus_within _ _ c.requires.some c.requires.bus in record { fits = omega (arith, within, c.len-size.ensures) }

pub bus_row-requires : goal.bus_row-requires
bus_row-requires g c = bus_within _ _ c.requires.some c.requires.bus

pub returns-clause-row : goal.returns-clause-row
returns-clause-row g c image bench f =
    let b = bus_there _ c.args.bus c.requires.bus image bench (earlier _ _ _ _ image bench c.bus_row.ensures.learned f) in
    let valid = valid_at bench c.args.bus b.0 f.valid.valid b.1 in (
      b.0,
      b.1,
      bus_is image _ c.bus_row.result b.0 (c.bus_row.ensures.row image bench f) b.2
          (c.valid_keeps_rules.ensures.keeps b.0.database valid).count (c.valid_is_decodable.ensures b.0.database valid),
    )
