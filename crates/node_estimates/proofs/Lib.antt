mod Estimating
mod Pricing
