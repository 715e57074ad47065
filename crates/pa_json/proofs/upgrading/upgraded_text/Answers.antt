-- The text is the compact one of a tree without floats, with a line feed, and reads back.
use Rattle.serde_json.specs.View.{view}
use Rattle.pa_json.proofs.UpgradedTexts.{text_is, text_reads, text_utf8}
use Rattle.pa_json.proofs.upgrading.upgraded_text.Goals as goal

pub returns-clause-text : goal.returns-clause-text
returns-clause-text c =
    text_is (view c.args.tree.now) (view c.in_ok-tree.tree) c.in_ok-text.text.items c.push.new.self.items c.in_ok-tree.ensures c.in_ok-push.ensures.items
    c.requires.0 c.requires.1 c.in_ok-text.ensures.text

pub returns-clause-utf8 : goal.returns-clause-utf8
returns-clause-utf8 c = text_utf8 c.in_ok-text.text.items c.push.new.self.items c.in_ok-push.ensures.items c.in_ok-text.ensures.utf8

pub returns-clause-reads_back : goal.returns-clause-reads_back
returns-clause-reads_back c =
    text_reads (view c.args.tree.now) (view c.in_ok-tree.tree) c.in_ok-text.text.items c.push.new.self.items c.in_ok-tree.ensures c.in_ok-push.ensures.items
    c.requires.0 c.requires.1 c.in_ok-text.ensures.reads_back c.in_ok-text.ensures.compact
