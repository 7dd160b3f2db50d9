-- Where a chunk was not kept, `read_whole` answers that the file is too long exactly where it took more than the limit.
use Rattle.std.proofs.Common.{◌≡◌, ◌↔◌, ℕ, ◌+◌, ◌<◌, List, ◌++◌, length, Option, Result, Err, Vec, refl, ◌∙◌, ap, subst, arith, length-append}
use Rattle.std.specs.Prelude.{IsErrOf}
use Rattle.std.specs.declared.alloc.Global.{Global}
use Rattle.std.specs.Io.KnownBytes.{prepend_known}
use Rattle.port_io.specs.declared.whole.Overrun.{Overrun}
use Rattle.port_io.specs.declared.whole.Overrun.TheVariants as overrun
use Rattle.port_io.specs.declared.whole.WholeRefused.{WholeRefused}
use Rattle.port_io.specs.declared.whole.WholeRefused.TheVariants as whole
use Rattle.port_io.specs.Library.{OpensFile}
use Rattle.port_io.specs.Overrun.{whole_refused_of}
use Rattle.port_io.specs.Transfers.{AnswersTaken}
use Rattle.port_io.proofs.KnownLaws.{prepend_known-prepend}

-- one more chunk of the file that was opened
pub opens_more : (files : Option (List (List ℕ × List ℕ))) (name : List ℕ) (was now : Option (List ℕ)) (moved chunk : List ℕ) → OpensFile files name (prepend_known moved was) → was ≡ prepend_known chunk now → OpensFile files name (prepend_known (moved ++ chunk) now)
opens_more files name was now moved chunk opens left_fewer =
    subst (OpensFile files name) (ap (prepend_known moved) left_fewer ∙ prepend_known-prepend now moved chunk) opens

-- a refusal that is the one for length exactly where too much was taken
refused : {E : Type 0} (limit : ℕ) (moved : List ℕ) (long refusal : E) (result : Result (Vec ℕ Global) E) → result ≡ Err refusal → (refusal ≡ long) ↔ (limit < length moved) → AnswersTaken limit moved long result
refused limit moved long refusal result is_err exactly =
    rw is_err (record { bytes = tt; within = tt; too_long = (λ e. exactly.0 (cc), λ more. ap (λ r. Err r) (exactly.1 more)) })

pub refused_whole : (limit : ℕ) (moved : List ℕ) (why : Overrun) (refusal : WholeRefused) (result : Result (Vec ℕ Global) WholeRefused) → result ≡ Err refusal → refusal ≡ whole_refused_of why → (why ≡ overrun.Long) ↔ (limit < length moved) → AnswersTaken limit moved whole.Long result
refused_whole limit moved overrun.Long refusal result is_err is exactly =
    refused limit moved whole.Long refusal result is_err (λ _. exactly.0 refl, λ _. is)
refused_whole limit moved overrun.Memory refusal result is_err is exactly =
    refused limit moved whole.Long refusal result is_err (λ e. absurd (cc), λ more. absurd (let e = exactly.1 more in cc))

-- a chunk that was refused for its length is one that passes the limit
pub long_exactly : {T : Type 0} (limit held : ℕ) (bytes chunk : List ℕ) (why : Overrun) (result : Result T Overrun) → held ≡ length bytes → result ≡ Err why → IsErrOf result overrun.Long ↔ (limit < held + length chunk) → (why ≡ overrun.Long) ↔ (limit < length (bytes ++ chunk))
long_exactly limit held bytes chunk why result holds is_err exactly = (
  λ e. let more = exactly.0 (is_err ∙ ap (λ o. Err o) e) in omega (arith, length-append bytes chunk),
  λ more. let e = exactly.1 (omega (arith, length-append bytes chunk)) in cc,
)
