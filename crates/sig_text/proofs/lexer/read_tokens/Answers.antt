use Rattle.std.proofs.Common.{◌≡◌, inl, sym, ap, subst, arith, is_ok, get_or}
use Rattle.sig_text.specs.declared.token.TokenKind.TheVariants.{Str}
use Rattle.std.proofs.ResultArms.{chosen}
use Rattle.sig_text.specs.Tokens.{AreTokens}
use Rattle.sig_text.proofs.ReadingLaws.{push_blank, push_token}
use Rattle.sig_text.proofs.lexer.read_tokens.Goals as goal

pub loop-at-preserved-in-Some : goal.loop-at-preserved-in-Some
loop-at-preserved-in-Some c =
    let blank = rw c.in-Some.is at c.in_ok-end.ensures.blank in
    record {
      within = blank.within;
      reading = push_blank c.args.bytes.now c.args.comments 0 c.loop-at.list.items c.loop-at.at c.in-Some.end c.loop-at.invariant.reading blank;
    }

pub loop-at-preserved : goal.loop-at-preserved
loop-at-preserved c =
    let found = c.in-Some-token_at.ensures.found in
    let token = c.in-Some-token_at.token in
    let pushed = chosen _ _ _ _ c.push.ensures.items (ap is_ok c.in_ok-push.was) in
    record {
      within = found.1.within;
      reading = subst (λ list. AreTokens c.args.bytes.now c.args.comments 0 list token.end) (sym pushed)
          (push_token c.args.bytes.now c.args.comments 0 c.loop-at.list.items c.loop-at.at token c.loop-at.invariant.reading found.0 found.1);
    }

pub returns-then-bytes-at-eq34-clause-fault : goal.returns-then-bytes-at-eq34-clause-fault
returns-then-bytes-at-eq34-clause-fault c =
    let none = c.in_default-token_at.ensures.none in
    let quote : get_or c.args.bytes.now c.loop-at.at 0 ≡ 34 = grind arith in
    inl ((c.loop-at.list.items, c.loop-at.invariant.reading), record { opening = quote; endless = none Str })
