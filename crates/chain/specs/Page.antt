-- No sentence of document 01: the chain that our own functions read from a column setting and two memories.
use Rattle.chain.specs.Chain.{Chain, chain}
use Rattle.chain.specs.declared.pages.Page.{Page}

abbrev pub chain_on : Page → Chain
chain_on page = chain page.columns page.screen.now page.attribute.now
