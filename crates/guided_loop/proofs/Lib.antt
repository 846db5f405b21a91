mod Beginning
mod Turning
