-- Reading nothing, and one reading after another.
use Rattle.std.proofs.Common.{◌≡◌, ◌+◌, List, [], ◌++◌, map, reverse, refl, sym, ap, ◌∙◌}
use Rattle.std.proofs.lemmas.List.{append-nil, append_assoc, reverse-append, map-append}
use Rattle.region_store.specs.declared.pinned.Pinned.{Pinned}
use Rattle.region_store.specs.declared.view.Read.{Read}
use Rattle.region_store.specs.declared.view.Use.{Use}
use Rattle.region_store.specs.declared.view.Did.{Did}
use Rattle.region_store.specs.declared.view.Did.TheVariants as did
use Rattle.region_store.specs.Ends.{Reads, loads_at, use_of_pin, steps_of_pin}

pub reads_same : (p : Pinned) → Reads p p
reads_same p = record {
  store = refl;
  lane = refl;
  version = refl;
  size = refl;
  start = refl;
  id = refl;
  shape = refl;
  used = refl;
  more = [];
  words = refl;
  steps = sym (append-nil (steps_of_pin p));
}

pub reads_chain : (a b c : Pinned) → Reads a b → Reads b c → Reads a c
reads_chain a b c f g = record {
  store = g.store ∙ f.store;
  lane = g.lane ∙ f.lane;
  version = g.version ∙ f.version;
  size = g.size ∙ f.size;
  start = g.start ∙ f.start;
  id = g.id ∙ f.id;
  shape = g.shape ∙ f.shape;
  used = g.used ∙ f.used;
  more = g.more ++ f.more;
  words = g.words ∙ (ap (λ (u : Use). record u { words = g.more ++ u.words }) f.words
      ∙ ap (λ (ws : List Read). record (use_of_pin a) { words = ws }) (sym (append_assoc g.more f.more (use_of_pin a).words)));
  steps =
      let load : Read → Did = λ r. did.Loaded (a.start + r.at) r.word in
      let mine : List Did = loads_at a.start f.more in
      let its : List Did = loads_at a.start g.more in
      let same : loads_at a.start (g.more ++ f.more) ≡ mine ++ its =
      ap (map load) (reverse-append g.more f.more) ∙ map-append load (reverse f.more) (reverse g.more) in
      g.steps
      ∙ ((λ i. f.steps i ++ loads_at (f.start i) g.more)
      ∙ (append_assoc (steps_of_pin a) mine its ∙ ap (λ l. steps_of_pin a ++ l) (sym same)));
}
