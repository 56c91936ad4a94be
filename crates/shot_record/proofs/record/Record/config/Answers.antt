-- `shot_record::fields::Record::config` meets its contract. Assumes nothing.
use Rattle.std.proofs.Common.{◌≡◌, ℕ, List, refl, ◌∙◌, arith}
use lib.Ieee.{Float}
use Rattle.matcher.specs.Codes.{bit}
use Rattle.score_matrix.specs.declared.BoardMatchConfig.{BoardMatchConfig}
use Rattle.shot_record.specs.Fields.{number}
use Rattle.shot_record.specs.Shots.{setting}
use Rattle.shot_record.specs.Answers.{of_pattern}
use Rattle.shot_record.proofs.Reading.{found_reach}
use Rattle.shot_record.proofs.Records.{found_in}
use Rattle.shot_record.proofs.record.Record.config.Goals as goal

pub setting-requires : goal.setting-requires
setting-requires c = omega (arith, found_reach _ _ c.args.self.now.located)

pub setting-requires-3 : goal.setting-requires-3
setting-requires-3 c = omega (arith, found_reach _ _ c.args.self.now.located)

pub setting-requires-4 : goal.setting-requires-4
setting-requires-4 c = omega (arith, found_reach _ _ c.args.self.now.located)

-- a setting from the map byte and the offset as they were found
at : {m n p q : ℕ} (bytes : List ℕ) (k default : ℕ) → m ≡ n → p ≡ q
    → of_pattern (setting (bit m k) (number 4 p bytes) default) ≡ of_pattern (setting (bit n k) (number 4 q bytes) default)
at bytes k default e g = cc

config : Float → Float → Float → Float → BoardMatchConfig
config px margin threshold least =
    record { px_per_square = px; alignment_min_margin = margin; cell_weight_border_threshold = threshold; least_weight = least }

same : {a b c d e f g h : Float} → a ≡ e → b ≡ f → c ≡ g → d ≡ h → config a b c d ≡ config e f g h
same p q r s = cc

pub returns : goal.returns
unfolding config
returns c =
    let r = c.args.self.now in
    let f = found_in r in
    let first : 1 ≡ 1 = refl in
    same
    (c.setting.ensures _ 2 c.is_set.ensures ∙ at r.bytes.now 2 0x42700000 f.map f.px_at_is)
    (c.setting-2.ensures _ 0 c.is_set-2.ensures ∙ at r.bytes.now 0 0x3D4CCCCD f.map first)
    (c.setting-3.ensures _ 1 c.is_set-3.ensures ∙ at r.bytes.now 1 0x3F000000 f.map f.threshold_at_is)
    (c.setting-4.ensures _ 5 c.is_set-4.ensures ∙ at r.bytes.now 5 0 f.map f.least_weight_at_is)
